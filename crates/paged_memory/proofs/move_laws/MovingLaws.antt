-- What the relations of calls over whole memories give.
use Rattle.std.proofs.Common.{◌≡◌, ℕ, List, ap}
use Rattle.page_memory.specs.Memory.{Memory}
use Rattle.paged_memory.specs.Paged.{PagedValue, memory_of}

-- memories that stand for the same one have the same words reserved
pub same_reserved : {S : Type 0} (held : S → List ℕ) (old new : PagedValue S) → memory_of held new ≡ memory_of held old → new.reserved ≡ old.reserved
same_reserved held old new same = ap (λ (memory : Memory). memory.reserved) same
