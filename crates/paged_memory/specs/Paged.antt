-- The pages, page tables and translation caches of one process, and the memory that they represent.
use Rattle.std.specs.Prelude.{◌≡◌, ℕ, ◌^◌, ◌<◌, ◌==◌, Bool, true, false, if◌then◌else◌, Option, Some, option_map, option_and_then, is_some, List, All}
use Rattle.frame_pool.specs.FrameValue.{FrameValue}
use Rattle.page_memory.specs.declared.words.Access.TheVariants.{Store}
use Rattle.page_memory.specs.Pages.{Page, Pages}
use Rattle.page_memory.specs.Rights.{may}
use Rattle.page_memory.specs.Reservations.{Reservations}
use Rattle.page_memory.specs.Memory.{Memory}
use Rattle.page_memory.specs.Entries.{place_of, value_at, map_by, ChangesPage as Changes}
use Rattle.page_store.specs.Keeping.{Keeping, NoSlot, Saved, Unbacked, Cleaning, CopyOut, is_loose}
use Rattle.page_store.specs.PageValue.{PageValue, Place, Fresh, Resident, Leaving, Saving, Away, Purged, content, frame_of, Backed}
use Rattle.sv32_table.specs.EntryAt.{entry_at, has_table}
use Rattle.tlb_core.specs.declared.translation.Translation.{Translation}
use Rattle.paged_memory.specs.Seen.{Standing, Seen}
use Rattle.paged_memory.specs.Seen as seen
use Rattle.paged_memory.specs.Soundness.{Agree}

-- the number of the process; the pages by their places, each with its number; the tables; the cache of each hart; and the words
-- that harts have reserved
pub record PagedValue (S : Type 0) : Type 0 where
  pub process : ℕ
  pub pages : List (ℕ × PageValue S)
  pub tables : List (List ℕ)
  pub caches : List (List Translation)
  pub reserved : Reservations

module _ {S : Type 0} where
  -- what translation sees of a page
  abbrev pub standing_of : Place S → Standing
  standing_of Fresh = seen.Elsewhere
  standing_of (Resident frame slot) = seen.Resident frame.number (is_loose slot)
  standing_of (Leaving frame slot mark) = seen.Leaving frame.number mark (is_loose slot)
  standing_of (Saving frame mark) = seen.Elsewhere
  standing_of (Away slot) = seen.Elsewhere
  standing_of Purged = seen.Elsewhere

  abbrev pub seen_of : PageValue S → Seen
  seen_of page = record { rights = page.origin.rights; standing = standing_of page.place }

  -- the page of a number
  unfoldable pub page_at : List (ℕ × PageValue S) → ℕ → Option (PageValue S)
  page_at pages number = option_and_then (λ place. value_at place pages) (place_of number pages)

  abbrev pub seen_at : List (ℕ × PageValue S) → ℕ → Option Seen
  seen_at pages number = option_map seen_of (page_at pages number)

  -- each cached translation has the place of its page
  abbrev pub ArePlaced : List (ℕ × PageValue S) → List (List Translation) → Type 0
  ArePlaced pages caches = All (λ cache. All (λ t. place_of t.page pages ≡ Some t.place) cache) caches

  -- a frame holds these bytes, with no slot, and the bit reports no store
  abbrev pub HoldsOrigin : Bool → List ℕ → FrameValue → Keeping S → Type 0
  HoldsOrigin dirty origin frame NoSlot = (dirty ≡ false) × (frame.bytes ≡ origin)
  HoldsOrigin dirty origin frame (Saved copy) = ⊥
  HoldsOrigin dirty origin frame (Unbacked slot) = ⊥
  HoldsOrigin dirty origin frame (Cleaning slot) = ⊥
  HoldsOrigin dirty origin frame CopyOut = ⊥

  -- a page shows what it began with, wherever it is, until it is given up: it was never saved, and does not count as changed
  abbrev pub IsUntouched : Bool → List ℕ → Place S → Type 0
  IsUntouched dirty origin Fresh = Unit {0}
  IsUntouched dirty origin (Resident frame slot) = HoldsOrigin dirty origin frame slot
  IsUntouched dirty origin (Leaving frame slot mark) = HoldsOrigin mark origin frame slot
  IsUntouched dirty origin (Saving frame mark) = ⊥
  IsUntouched dirty origin (Away copy) = ⊥
  IsUntouched dirty origin Purged = Unit {0}

  -- a page that may not be written does
  abbrev pub IsConstant : Bool → PageValue S → Type 0
  IsConstant dirty page = may Store page.origin.rights ≡ false → IsUntouched dirty page.origin.bytes page.place

  -- pages, tables and caches go together; a page with a frame has a table; where slots are honest, a page that does not count as changed equals its
  -- backing; and whatever slots are, a page that may not be written shows what it began with
  pub record Holds (held : S → List ℕ) (honest : Type 0) (pages : List (ℕ × PageValue S)) (tables : List (List ℕ)) (caches : List (List Translation)) : Type 0 where
    pub agree : Agree (seen_at pages) (entry_at tables) caches
    pub tabled : (number : ℕ) (page : PageValue S) → number < 2 ^ 20 → page_at pages number ≡ Some page → is_some (frame_of page.place) ≡ true → has_table tables number ≡ true
    pub placed : ArePlaced pages caches
    pub backed : honest → (number : ℕ) (page : PageValue S) → number < 2 ^ 20 → page_at pages number ≡ Some page → Backed held (entry_at tables number).dirty page
    pub constant : (number : ℕ) (page : PageValue S) → number < 2 ^ 20 → page_at pages number ≡ Some page → IsConstant (entry_at tables number).dirty page

  -- one page is this now, and each other what it was; each keeps its place
  pub record ChangesPage (old new : List (ℕ × PageValue S)) (number : ℕ) (page : PageValue S) : Type 0 where
    pub places : (q place : ℕ) → place_of q old ≡ Some place → place_of q new ≡ Some place
    pub pages : (q : ℕ) → page_at new q ≡ (if q == number then Some page else page_at old q)
    pub entries : Changes old new number page

  -- a page of memory: its rights and what it shows
  abbrev pub flat_page : (S → List ℕ) → PageValue S → Page
  flat_page held page = record { rights = page.origin.rights; bytes = content held page }

  -- the pages of memory that the pages represent
  unfoldable pub flat_pages : (S → List ℕ) → List (ℕ × PageValue S) → Pages
  flat_pages held pages = map_by (flat_page held) pages

  -- the memory that pages represent, with the words that harts have reserved
  abbrev pub memory_in : (S → List ℕ) → List (ℕ × PageValue S) → Reservations → Memory
  memory_in held pages reserved = record { pages = flat_pages held pages; reserved = reserved }

  -- the memory of a process
  abbrev pub memory_of : (S → List ℕ) → PagedValue S → Memory
  memory_of held value = memory_in held value.pages value.reserved
