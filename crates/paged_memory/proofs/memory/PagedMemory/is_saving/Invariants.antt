use Rattle.std.proofs.Common.{◌≡◌, ◌<◌, ℕ, false, slice_index}
use Rattle.page_memory.specs.Entries.{pages_of}
use Rattle.page_store.specs.PageValue.{is_out}
use Rattle.paged_memory.specs.Counting.{page_passes}
use Rattle.paged_memory.specs.Paged.{page_at}
use Rattle.paged_memory.proofs.memory.PagedMemory.is_saving.Given as goal

abbrev pub invariant-loop-place : goal.invariant-loop-place
invariant-loop-place g l = (k : ℕ) → k < l.place → page_passes (λ page. is_out page.place) (page_at l.self-inside.pages (slice_index (pages_of l.self-inside.pages) k)) ≡ false
