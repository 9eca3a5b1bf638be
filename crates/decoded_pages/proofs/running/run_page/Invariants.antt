use Rattle.std.proofs.Common.{◌-◌, ◌*◌, ◌≤◌}
use Rattle.page_memory.specs.declared.words.Access.TheVariants.{Fetch}
use Rattle.page_memory.specs.Words.{page_number}
use Rattle.rv_exec.specs.Arithmetic.{word_sum}
use Rattle.rv_exec.specs.Registers.{with_pc}
use Rattle.decoded_pages.specs.Running.{Iterates, Steps}
use Rattle.decoded_pages.proofs.running.run_page.Given as goal

abbrev pub invariant-loop-left : goal.invariant-loop-left
invariant-loop-left g l = record {
  within : l.left ≤ l.most;
  place : l.place ≤ 1024;
  served : g.M.ReadyMemory.serves l.hart l.memory Fetch (page_number l.page.start);
  admits : g.M.ReadyMemory.admits l.hart l.memory;
  ran : Iterates (Steps g.M.ReadyMemory.memory (g.M.ReadyMemory.serves l.hart) (g.M.ReadyMemory.stays l.hart)) (l.most - l.left) (with_pc l.initial.regs (word_sum l.page.start (l.from * 4)), l.initial.memory)
      (with_pc l.regs (word_sum l.page.start (l.place * 4)), l.memory);
}

abbrev pub decreases-loop-left : goal.decreases-loop-left
decreases-loop-left g l = l.left
