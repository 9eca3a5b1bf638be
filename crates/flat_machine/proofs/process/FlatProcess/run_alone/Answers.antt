use Rattle.std.proofs.Common.{◌≡◌, ◌+◌, true, Some, ap, ◌∙◌, sym, subst, arith}
use Rattle.flat_machine.proofs.RunLaws.{by_turns_none, by_turns_more}
use Rattle.flat_machine.specs.Refusals.{WantsAt}
use Rattle.flat_machine.proofs.StepLaws.{goes_on_alike, is_live_in}
use Rattle.flat_machine.specs.Process.{may_step}
use Rattle.flat_machine.proofs.Turning.{again, next_turn, more_turns, wants_after}
use Rattle.flat_machine.proofs.process.FlatProcess.run_alone.Goals as goal

pub loop-steps-init : goal.loop-steps-init
loop-steps-init c = record { ran = by_turns_none c.args.hart c.args.self.now; may = c.requires.may; alone = c.requires.alone; within = omega arith }

pub returns-then-steps-most-clause-ran : goal.returns-then-steps-most-clause-ran
returns-then-steps-most-clause-ran c =
    let plain = c.step_plainly-course in
    let alone = again c.args.hart c.loop-steps.self plain.new.self c.loop-steps.invariant.alone plain.ensures.same.1 in
    more_turns c.loop-steps.steps plain.result.done c.args.hart c.args.hart c.args.hart c.args.self.now c.loop-steps.self plain.new.self c.loop-steps.invariant.ran (plain.ensures.alone c.loop-steps.invariant.alone)
    ∙ ap (λ t. Some (t, plain.new.self)) (sym alone)

pub loop-steps-preserved : goal.loop-steps-preserved
loop-steps-preserved c =
    let plain = c.step_plainly-course in
    let before = more_turns c.loop-steps.steps plain.result.done c.args.hart c.args.hart c.args.hart c.args.self.now c.loop-steps.self plain.new.self c.loop-steps.invariant.ran (plain.ensures.alone c.loop-steps.invariant.alone) in
    let same = c.in-Ok-true.ensures.same c.in-Ok-true.field-0-test in
    let alone = again c.args.hart plain.new.self c.end_step.new.self (again c.args.hart c.loop-steps.self plain.new.self c.loop-steps.invariant.alone plain.ensures.same.1) same.1 in
    let may = goes_on_alike c.args.hart c.loop-steps.self plain.new.self c.loop-steps.invariant.may plain.ensures.same.0 plain.ensures.same.1 in
    record {
      ran = next_turn (c.loop-steps.steps + plain.result.done) c.args.hart c.args.hart c.args.hart c.args.self.now plain.new.self c.end_step.new.self before c.in-Ok-true.ensures.ok alone;
      may = goes_on_alike c.args.hart plain.new.self c.end_step.new.self may same.0 same.1;
      alone = alone;
      within = omega (arith, plain.ensures.within, c.if-steps-most.false, c.loop-steps-test.true);
    }

pub returns-in-Ok-false-clause-ran : goal.returns-in-Ok-false-clause-ran
returns-in-Ok-false-clause-ran c =
    let plain = c.step_plainly-course in
    let before = more_turns c.loop-steps.steps plain.result.done c.args.hart c.args.hart c.args.hart c.args.self.now c.loop-steps.self plain.new.self c.loop-steps.invariant.ran (plain.ensures.alone c.loop-steps.invariant.alone) in
    by_turns_more (c.loop-steps.steps + plain.result.done) c.args.hart c.args.hart c.args.self.now plain.new.self c.end_step.new.self before c.in-Ok-false.ensures.ok

pub returns-in-Err-clause-memory : goal.returns-in-Err-clause-memory
returns-in-Err-clause-memory c =
    let plain = c.step_plainly-course in
    let before = more_turns c.loop-steps.steps plain.result.done c.args.hart c.args.hart c.args.hart c.args.self.now c.loop-steps.self plain.new.self c.loop-steps.invariant.ran (plain.ensures.alone c.loop-steps.invariant.alone) in (
      omega (arith, plain.ensures.within, c.if-steps-most.false, c.loop-steps-test.true),
      subst (λ p. WantsAt c.args.hart c.args.self.now (c.loop-steps.steps + plain.result.done) c.args.hart p) (sym c.in-Err.ensures.err)
          (wants_after (c.loop-steps.steps + plain.result.done) c.args.hart c.args.hart c.args.self.now plain.new.self before c.in-Err.ensures.wants),
    )

pub returns-in-Err-clause-live : goal.returns-in-Err-clause-live
returns-in-Err-clause-live c = is_live_in c.args.hart c.end_step.new.self (subst (λ p. may_step c.args.hart p ≡ true) (sym c.in-Err.ensures.err) c.in-Err.ensures.wants.may)
