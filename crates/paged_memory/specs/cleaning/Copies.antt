-- A copy of a page that is out equals the page as long as no dirty bit reports a store since the copy was made.
use Rattle.std.specs.Prelude.{◌≡◌, ℕ, ◌^◌, ◌<◌, Bool, true, false, ◌&&◌, List, Option, Some, None, IsFalse}
use Rattle.page_store.specs.Cleaning.{IfCopyOut}
use Rattle.page_store.specs.Keeping.{Keeping, NoSlot, Saved, Unbacked, Cleaning, CopyOut, is_copy_out}
use Rattle.page_store.specs.PageValue.{PageValue, Place, Fresh, Resident, Leaving, Saving, Away, Purged, slot_of}
use Rattle.sv32_table.specs.EntryAt.{entry_at}
use Rattle.paged_memory.specs.Counting.{page_passes, pages_where}
use Rattle.paged_memory.specs.Paged.{PagedValue, page_at}

module _ {S : Type 0} where
  -- a valid copy is out: unless the page's dirty bit, or the one that it took along, reports a store, the page's frame holds these bytes
  abbrev pub StandsAt : List ℕ → Bool → Option (PageValue S) → Type 0
  StandsAt bytes dirty (Some page) = IfCopyOut dirty page.place (λ frame stored. IsFalse stored → frame.bytes ≡ bytes)
  StandsAt bytes dirty None = ⊥

  -- the same of the page of a number
  abbrev pub CopyStands : ℕ → List ℕ → PagedValue S → Type 0
  CopyStands vpn bytes memory = StandsAt bytes (entry_at memory.tables vpn).dirty (page_at memory.pages vpn)

  -- every copy that was valid is still valid
  abbrev pub KeepsCopies : PagedValue S → PagedValue S → Type 0
  KeepsCopies old new = (vpn : ℕ) (bytes : List ℕ) → vpn < 2 ^ 20 → CopyStands vpn bytes old → CopyStands vpn bytes new

  -- whether a copy of the page of a number is out
  abbrev pub is_copied_in : PagedValue S → ℕ → Bool
  is_copied_in memory vpn = page_passes (λ page. is_copy_out (slot_of page.place)) (page_at memory.pages vpn)

  -- how many pages have a copy out, of those whose numbers pass
  abbrev pub copies_among : PagedValue S → (ℕ → Bool) → ℕ
  copies_among memory test = pages_where (λ number page. is_copy_out (slot_of page.place) && test number) memory.pages

  -- the same copies are out, and each that was valid is still valid
  pub record LeavesCopies (old new : PagedValue S) : Type 0 where
    pub stand : KeepsCopies old new
    pub out : (vpn : ℕ) → vpn < 2 ^ 20 → is_copied_in new vpn ≡ is_copied_in old vpn

  -- of every other page the same copies are out, and each that was valid is still valid
  pub record OtherCopies (vpn : ℕ) (old new : PagedValue S) : Type 0 where
    pub stand : (q : ℕ) (bytes : List ℕ) → q < 2 ^ 20 → (q ≡ vpn → ⊥) → CopyStands q bytes old → CopyStands q bytes new
    pub out : (q : ℕ) → q < 2 ^ 20 → (q ≡ vpn → ⊥) → is_copied_in new q ≡ is_copied_in old q

  -- a copy of the page of a number goes out with these bytes, and is valid
  pub record CopyGoesOut (vpn : ℕ) (bytes : List ℕ) (old new : PagedValue S) : Type 0 where
    pub before : is_copied_in old vpn ≡ false
    pub out : is_copied_in new vpn ≡ true
    pub stands : CopyStands vpn bytes new
    pub others : OtherCopies vpn old new

  -- the copy of the page of a number that was out is out no more
  pub record CopyComesBack (vpn : ℕ) (old new : PagedValue S) : Type 0 where
    pub before : is_copied_in old vpn ≡ true
    pub back : is_copied_in new vpn ≡ false
    pub others : OtherCopies vpn old new

-- what is known of a copy that is out: the bit that reports a store since, and what the frame holds

module _ {S : Type 0} where
  abbrev pub if_out : {A : Type 0} → Keeping S → A → Option A
  if_out NoSlot told = None
  if_out (Saved copy) told = None
  if_out (Unbacked slot) told = None
  if_out (Cleaning slot) told = None
  if_out CopyOut told = Some told

  abbrev pub told_of_place : Bool → Place S → Option (Bool × List ℕ)
  told_of_place dirty Fresh = None
  told_of_place dirty (Resident frame slot) = if_out slot (dirty, frame.bytes)
  told_of_place dirty (Leaving frame slot mark) = if_out slot (mark, frame.bytes)
  told_of_place dirty (Saving frame mark) = None
  told_of_place dirty (Away copy) = None
  told_of_place dirty Purged = None

  abbrev pub told_of_page : Bool → Option (PageValue S) → Option (Bool × List ℕ)
  told_of_page dirty (Some page) = told_of_place dirty page.place
  told_of_page dirty None = None

  abbrev pub told_in : PagedValue S → ℕ → Option (Bool × List ℕ)
  told_in memory vpn = told_of_page (entry_at memory.tables vpn).dirty (page_at memory.pages vpn)
