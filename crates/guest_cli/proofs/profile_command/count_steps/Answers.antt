use Rattle.std.proofs.Common.{◌≡◌, [], ◌∷◌, ◌++◌, sym, subst}
use Rattle.std.proofs.lemmas.Option.{MatchOption-at_some}
use Rattle.guest_steps.specs.StepsToCome.{Moves}
use Rattle.guest_profile.specs.Accounts.{IsAccount, after_all}
use Rattle.flat_machine.specs.Refusals.{WantsMemory}
use Rattle.guest_steps.specs.declared.step_string.StepString.{StepString}
use Rattle.guest_cli.specs.CountedRuns.{TellsAll, Wanting}
use Rattle.guest_cli.proofs.CountedSteps.{told_none, told_more, counted_none, counted_more}
use Rattle.guest_cli.proofs.profile_command.count_steps.Goals as goal

pub steps-init : goal.steps-init
steps-init c = record {
  done = [];
  told = told_none c.args.steps.now;
  counts = λ account kept. subst (IsAccount c.args.profile.now) (sym (counted_none account)) kept;
}

pub steps-preserved : goal.steps-preserved
steps-preserved c =
    let before = c.steps.invariant in
    record {
      done = before.done ++ c.in-Some.told ∷ [];
      told = told_more before.done c.in-Some.told c.args.steps.now c.steps.steps c.next.new.self before.told (MatchOption-at_some (Unit {0}) (λ told. Moves told c.steps.steps c.next.new.self) c.in-Some.told c.in-Some.is c.in-Ok.ensures.moves);
      counts = λ account kept. subst (IsAccount c.count.new.self) (sym (counted_more before.done c.in-Some.told account)) (c.in_ok-count.ensures (after_all before.done account) (before.counts account kept));
    }

pub returns-in_default : goal.returns-in_default
returns-in_default c =
    let before = c.steps.invariant in
    let same : c.next.new.self ≡ c.steps.steps = c.in_default.ensures.err in
    record {
      steps = before.done;
      told = subst (λ (s : StepString). TellsAll before.done c.args.steps.now s) (sym same) before.told;
      over = Wanting (subst (λ (s : StepString). WantsMemory s.turn s.process) (sym same) c.in_default.ensures.wants);
      counts = before.counts;
    }
