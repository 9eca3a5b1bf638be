use Rattle.std.proofs.Common.{◌+◌, Some, arith, replicate, sym, subst, ap, ◌∙◌}
use Rattle.flat_machine.specs.Process.{flat_run}
use Rattle.flat_machine.proofs.RunLaws.{flat_run_none, more_steps, one_more_step}
use Rattle.flat_machine.specs.Refusals.{WantsMemory}
use Rattle.flat_machine.proofs.process.FlatProcess.repeat.Goals as goal

pub loop-done-init : goal.loop-done-init
loop-done-init c = record { ran = flat_run_none c.args.self.now; within = omega arith }

pub returns-then-done-count-clause-ok : goal.returns-then-done-count-clause-ok
returns-then-done-count-clause-ok c =
    let plain = c.step_plainly-course in
    ap (λ k. flat_run (replicate k c.args.hart) c.args.self.now) (sym c.if-done-count.true)
    ∙ more_steps c.loop-done.done plain.result.done c.args.hart c.args.self.now c.loop-done.self plain.new.self c.loop-done.invariant.ran plain.ensures.ran

pub loop-done-preserved : goal.loop-done-preserved
loop-done-preserved c =
    let plain = c.step_plainly-course in
    record {
      ran = one_more_step (c.loop-done.done + plain.result.done) c.args.hart c.args.self.now plain.new.self c.end_step.new.self
          (more_steps c.loop-done.done plain.result.done c.args.hart c.args.self.now c.loop-done.self plain.new.self c.loop-done.invariant.ran plain.ensures.ran) c.in-Ok.ensures.ok;
      within = omega (arith, plain.ensures.within, c.if-done-count.false, c.loop-done-test.true);
    }

pub returns-in-Err-clause-refused : goal.returns-in-Err-clause-refused
returns-in-Err-clause-refused c =
    let plain = c.step_plainly-course in
    let same = c.in-Err.ensures.err in (
      omega (arith, plain.ensures.within, c.if-done-count.false, c.loop-done-test.true),
      more_steps c.loop-done.done plain.result.done c.args.hart c.args.self.now c.loop-done.self plain.new.self c.loop-done.invariant.ran plain.ensures.ran ∙ ap Some (sym same),
      subst (WantsMemory c.args.hart) (sym same) c.in-Err.ensures.wants,
    )
