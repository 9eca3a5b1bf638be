use Rattle.std.proofs.Common.{◌≡◌, ◌-◌, length, take}
use Rattle.page_memory.proofs.page_index.PageIndex.truncate.Given as goal

abbrev pub invariant-loop : goal.invariant-loop
invariant-loop l = l.self ≡ take (length l.fn.self - l.counter) l.fn.self
