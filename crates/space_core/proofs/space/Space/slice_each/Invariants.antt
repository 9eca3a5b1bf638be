use Rattle.std.proofs.Common.{◌-◌, ◌≤◌}
use Rattle.space_core.specs.StepByStep.{StepsOn}
use Rattle.space_core.proofs.space.Space.slice_each.Given as goal

abbrev pub invariant-turns : goal.invariant-turns
invariant-turns g l = record {
  on : StepsOn g.S.SwapSlot.content g.S.SwapSlot.honest l.hart l.ran l.initial.self l.self;
  within : l.ran ≤ l.budget;
}

abbrev pub decreases-turns : goal.decreases-turns
decreases-turns g l = l.budget - l.ran
