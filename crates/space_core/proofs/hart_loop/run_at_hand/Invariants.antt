use Rattle.std.proofs.Common.{◌≡◌, ◌-◌, ◌≤◌}
use Rattle.rv_exec.specs.Registers.{with_pc}
use Rattle.space_core.specs.HartLoop.{RunsEach}
use Rattle.space_core.proofs.hart_loop.run_at_hand.Given as goal
use Rattle.paged_memory.specs.access.Using.{cache_in}
use Rattle.paged_memory.specs.Whole.{harts_in}

abbrev pub invariant-loop-left : goal.invariant-loop-left
invariant-loop-left g l = record {
  each : RunsEach g.S.SwapSlot.content g.S.SwapSlot.honest l.hart (l.most - l.left) (with_pc l.initial.regs l.initial.pc) l.initial.memory (with_pc l.regs l.pc) l.memory;
  started : harts_in l.memory ≡ harts_in l.initial.memory;
  within : l.left ≤ l.most;
}

abbrev pub decreases-loop-left : goal.decreases-loop-left
decreases-loop-left g l = l.left

abbrev pub ghosts-run_one : goal.ghosts-run_one
ghosts-run_one g a = record { opening = cache_in a.memory.now a.hart }
