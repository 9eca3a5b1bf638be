use Rattle.std.proofs.Common.{◌≡◌, ◌∙◌, true, ap, subst, sym, unwrap_or}
use Rattle.flat_machine.specs.Process.{Process, is_live}
use Rattle.flat_machine.proofs.Turning.{turn_is_live}
use Rattle.flat_machine.proofs.process.FlatProcess.turn_after.Goals as goal

pub returns-clause-lives : goal.returns-clause-lives
returns-clause-lives c =
    let process : Process = record { harts = c.self.inside.harts.items; environment = c.self.inside.env; memory = c.self.inside.memory; ending = c.self.inside.end } in
    subst (λ p. is_live c.unwrap_or.result p ≡ true) c.self.view_is
    (subst (λ turn. is_live turn process ≡ true) (sym (c.unwrap_or.ensures ∙ ap (λ o. unwrap_or o c.args.hart) c.next_live.ensures)) (turn_is_live c.args.hart process c.self.invariant.whole))
