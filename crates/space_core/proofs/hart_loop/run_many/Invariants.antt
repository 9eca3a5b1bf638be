use Rattle.std.proofs.Common.{◌≡◌, ◌-◌, ◌≤◌}
use Rattle.space_core.specs.HartLoop.{RunsEach}
use Rattle.space_core.proofs.hart_loop.run_many.Given as goal
use Rattle.paged_memory.specs.Whole.{harts_in}

abbrev pub invariant-loop-left : goal.invariant-loop-left
invariant-loop-left g l = record {
  each : RunsEach g.S.SwapSlot.content g.S.SwapSlot.honest l.hart (l.most - l.left) l.initial.regs l.initial.memory l.regs l.memory;
  started : harts_in l.memory ≡ harts_in l.initial.memory;
  within : l.left ≤ l.most;
}

abbrev pub decreases-loop-left : goal.decreases-loop-left
decreases-loop-left g l = l.left
