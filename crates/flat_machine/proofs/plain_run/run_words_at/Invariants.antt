use Rattle.std.proofs.Common.{◌≡◌, ◌-◌, ◌≤◌, Some}
use Rattle.rv_exec.specs.Registers.{with_pc}
use Rattle.flat_machine.specs.PlainRun.{plain_run}
use Rattle.flat_machine.proofs.plain_run.run_words_at.Given as goal

abbrev pub invariant-loop-left : goal.invariant-loop-left
invariant-loop-left l = record {
  ran : plain_run l.hart (l.most - l.left) (with_pc l.initial.regs l.initial.pc) l.initial.memory ≡ Some (with_pc l.regs l.pc, l.memory);
  within : l.left ≤ l.most;
}

abbrev pub decreases-loop-left : goal.decreases-loop-left
decreases-loop-left l = l.left
