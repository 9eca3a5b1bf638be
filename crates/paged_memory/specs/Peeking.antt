-- A look at bytes of a process's memory from outside, which brings in no page.
use Rattle.std.specs.Prelude.{◌≡◌, ◌≢◌, ℕ, Option, Some, None, option_map, List}
use Rattle.std.specs.FinMap.{get}
use Rattle.page_memory.specs.Memory.{Memory}
use Rattle.page_memory.specs.Words.{page_number, page_offset}
use Rattle.page_store.specs.Reading.{some_from}
use Rattle.page_store.specs.PageValue.{PageValue, Place, Fresh, Resident, Leaving, Saving, Away, Purged, content, Known}
use Rattle.paged_memory.specs.Paged.{page_at}
use Rattle.paged_memory.specs.Calls.{ChangesBy}
use Rattle.paged_memory.specs.moves.Filling.{StaysAbsent, FailsToLoad}
use Rattle.paged_memory.specs.declared.peeking.PeekFault.{PeekFault}
use Rattle.paged_memory.specs.declared.peeking.PeekFault.TheVariants as fault

-- so many bytes of a memory from an address on, in the page of that address
abbrev pub bytes_of : Memory → ℕ → ℕ → Option (List (Option ℕ))
bytes_of memory address count = option_map (λ page. some_from page.bytes (page_offset address) count) (get memory.pages (page_number address))

module _ {S : Type 0} (held : S → List ℕ) (honest : Type 0) where
  -- so many bytes that a page shows from an offset on, which are known but for a page whose slot may lie
  abbrev pub ShowsBytes : Option (PageValue S) → ℕ → ℕ → List (Option ℕ) → Type 0
  ShowsBytes (Some page) offset count bytes = (page.place ≢ Purged) × (Known honest page.place → bytes ≡ some_from (content held page) offset count)
  ShowsBytes None offset count bytes = ⊥

  -- the pages after a look at one: one that is away stays where it is, and every other is just what it was
  abbrev pub LeavesPlace : List (ℕ × PageValue S) → List (ℕ × PageValue S) → ℕ → Place S → Type 0
  LeavesPlace old new number Fresh = new ≡ old
  LeavesPlace old new number (Resident frame slot) = new ≡ old
  LeavesPlace old new number (Leaving frame slot mark) = new ≡ old
  LeavesPlace old new number (Saving frame mark) = new ≡ old
  LeavesPlace old new number (Away slot) = ChangesBy (StaysAbsent held honest) old new number
  LeavesPlace old new number Purged = new ≡ old

  abbrev pub LeavesPage : List (ℕ × PageValue S) → List (ℕ × PageValue S) → ℕ → Option (PageValue S) → Type 0
  LeavesPage old new number (Some page) = LeavesPlace old new number page.place
  LeavesPage old new number None = new ≡ old

  -- why bytes are not shown
  abbrev pub RefusesPeek : (S → ℕ) → List (ℕ × PageValue S) → List (ℕ × PageValue S) → ℕ → PeekFault → Type 0
  RefusesPeek failures old new number fault.NotMapped = page_at old number ≡ None
  RefusesPeek failures old new number fault.Purged = option_map (λ page. page.place) (page_at old number) ≡ Some Purged
  RefusesPeek failures old new number fault.Device = ChangesBy (FailsToLoad held honest failures) old new number
