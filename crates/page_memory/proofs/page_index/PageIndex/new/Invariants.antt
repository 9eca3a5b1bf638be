use Rattle.std.proofs.Common.{◌≡◌, replicate, None}
use Rattle.page_memory.proofs.page_index.PageIndex.new.Given as goal

abbrev pub invariant-loop : goal.invariant-loop
invariant-loop l = l.directory.items ≡ replicate l.counter None
