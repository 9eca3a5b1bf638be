use Rattle.std.proofs.Common.{◌≡◌, ◌⊎◌, inl, inr, IsSome, Option, None, sym, ap, ◌∙◌}
use Rattle.flat_machine.specs.Process.{Process}
use Rattle.guest_cli.specs.CountedRuns.{Itself, Limited}
use Rattle.guest_cli.proofs.profile_command.end_of.Goals as goal

not_ended : {E P : Type 0} (ending : Option E) → ending ≡ None → P ⊎ IsSome ending → P
not_ended ending none (inl holds) = holds
not_ended ending none (inr some) = cc

pub returns-in-Some : goal.returns-in-Some
returns-in-Some c = Itself c.in-Some.end (sym (c.end.ensures ∙ ap (λ (p : Process). p.ending) c.process.ensures) ∙ c.in-Some.is)

pub returns-in-None : goal.returns-in-None
returns-in-None c =
    let none : c.args.steps.now.process.ending ≡ None = sym (c.end.ensures ∙ ap (λ (p : Process). p.ending) c.process.ensures) ∙ c.in-None.is in
    Limited none (not_ended c.args.steps.now.process.ending none c.requires.over)
