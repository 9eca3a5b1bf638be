use Rattle.std.proofs.Common.{◌-◌, ◌≤◌}
use Rattle.rv_exec.specs.Registers.{with_pc}
use Rattle.decoded_pages.specs.Running.{Iterates, Steps}
use Rattle.decoded_pages.proofs.running.run_decoded.Given as goal

abbrev pub invariant-loop-left : goal.invariant-loop-left
invariant-loop-left g l = record {
  within : l.left ≤ l.most;
  admits : g.M.ReadyMemory.admits l.hart l.memory;
  ran : Iterates (Steps g.M.ReadyMemory.memory (g.M.ReadyMemory.serves l.hart) (g.M.ReadyMemory.stays l.hart)) (l.most - l.left) (with_pc l.initial.regs l.initial.pc, l.initial.memory) (with_pc l.regs l.pc, l.memory);
}

abbrev pub decreases-loop-left : goal.decreases-loop-left
decreases-loop-left g l = l.left
