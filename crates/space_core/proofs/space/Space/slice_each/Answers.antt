use Rattle.std.proofs.Common.{arith, refl}
use Rattle.space_core.specs.StepByStep.{StepsOn}
use Rattle.space_core.proofs.SliceChain.{all_went, one_stopped, one_went}
use Rattle.space_core.proofs.space.Space.slice_each.Goals as goal

pub turns-init : goal.turns-init
unfolding StepsOn
turns-init g c = record { on = refl; within = omega arith }

pub returns-in_default : goal.returns-in_default
returns-in_default g c = record {
  each = all_went g.S.SwapSlot.content g.S.SwapSlot.honest c.args.hart c.turns.ran c.steps-steps.result.ran c.args.budget c.steps-steps.result.last c.args.self.now c.turns.self c.steps-steps.new.self
      c.turns.invariant.within c.in_default.is c.steps-steps.ensures.all c.turns.invariant.on c.steps-steps.ensures.each;
}

pub returns-then-not-goes_on : goal.returns-then-not-goes_on
returns-then-not-goes_on g c =
    record {
      each = one_stopped g.S.SwapSlot.content g.S.SwapSlot.honest c.args.hart c.turns.ran c.steps-steps.result.ran c.args.budget c.steps-steps.result.last c.in-Some.last c.args.self.now c.turns.self c.steps-steps.new.self
          c.turns.invariant.within c.in-Some.is c.steps-steps.ensures.short c.if-not-goes_on.ensures.off c.turns.invariant.on c.steps-steps.ensures.each;
    }

pub turns-preserved : goal.turns-preserved
turns-preserved g c =
    let went = one_went g.S.SwapSlot.content g.S.SwapSlot.honest c.args.hart c.turns.ran c.steps-steps.result.ran c.args.budget c.steps-steps.result.last c.in-Some.last c.args.self.now c.turns.self c.steps-steps.new.self
    c.turns.invariant.within c.in-Some.is c.steps-steps.ensures.short c.if-not-goes_on.ensures.on c.turns.invariant.on c.steps-steps.ensures.each in
    record { on = went.0; within = went.2 }
