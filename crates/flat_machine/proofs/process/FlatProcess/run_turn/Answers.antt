use Rattle.std.proofs.Common.{◌≡◌, true, sym, subst}
use Rattle.flat_machine.specs.Process.{may_step}
use Rattle.flat_machine.proofs.StepLaws.{is_live_in}
use Rattle.flat_machine.proofs.RunLaws.{by_turns_one}
use Rattle.flat_machine.specs.Refusals.{WantsAt}
use Rattle.flat_machine.proofs.Turning.{wants_now}
use Rattle.flat_machine.proofs.process.FlatProcess.run_turn.Goals as goal

pub returns-in-Ok-clause-ran : goal.returns-in-Ok-clause-ran
returns-in-Ok-clause-ran c = by_turns_one c.args.hart c.args.self.now c.step_live.new.self c.in-Ok.ensures.ok

pub returns-in-Err-clause-memory : goal.returns-in-Err-clause-memory
returns-in-Err-clause-memory c =
    (c.requires.some, subst (WantsAt c.args.hart c.args.self.now 0 c.args.hart) (sym c.in-Err.ensures.err) (wants_now c.args.hart c.args.self.now c.in-Err.ensures.wants))

pub returns-in-Err-clause-live : goal.returns-in-Err-clause-live
returns-in-Err-clause-live c = is_live_in c.args.hart c.step_live.new.self (subst (λ p. may_step c.args.hart p ≡ true) (sym c.in-Err.ensures.err) c.requires.may)
