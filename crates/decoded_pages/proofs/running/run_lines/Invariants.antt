use Rattle.std.proofs.Common.{◌-◌, ◌*◌, ◌≤◌, slice_index_or}
use Rattle.page_memory.specs.declared.words.Access.TheVariants.{Fetch}
use Rattle.page_memory.specs.Words.{page_number}
use Rattle.rv_exec.specs.Arithmetic.{word_sum}
use Rattle.rv_exec.specs.Registers.{with_pc}
use Rattle.decoded_pages.specs.Running.{Iterates, Steps}
use Rattle.decoded_pages.proofs.running.run_lines.Given as goal

abbrev pub invariant-loop-place : goal.invariant-loop-place
invariant-loop-place g l = record {
  place : l.place ≤ 1024;
  within : l.place ≤ l.limit;
  most : l.limit - l.place ≤ l.most;
  line : slice_index_or l.page.ends.items l.place 0 ≤ l.limit;
  served : g.M.ReadyMemory.serves l.hart l.memory Fetch (page_number l.page.start);
  admits : g.M.ReadyMemory.admits l.hart l.memory;
  ran : Iterates (Steps g.M.ReadyMemory.memory (g.M.ReadyMemory.serves l.hart) (g.M.ReadyMemory.stays l.hart)) (l.most - (l.limit - l.place)) (with_pc l.initial.regs (word_sum l.page.start (l.from * 4)), l.initial.memory)
      (with_pc l.regs (word_sum l.page.start (l.place * 4)), l.memory);
}

abbrev pub decreases-loop-place : goal.decreases-loop-place
decreases-loop-place g l = l.limit - l.place
