-- Pages that were never brought in: what a process on paged memory begins with, and how such pages are added.
use Rattle.std.specs.Prelude.{◌≡◌, ℕ, ◌^◌, ◌<◌, false, None, List, [], ◌∷◌, ◌++◌, map}
use Rattle.page_memory.specs.Entries.{place_of, with_added}
use Rattle.page_memory.specs.Pages.{Page}
use Rattle.page_memory.specs.Reservations.{none_reserved}
use Rattle.page_store.specs.PageValue.{PageValue, Fresh, fresh_zero_page}
use Rattle.sv32_table.specs.EntryAt.{has_table}
use Rattle.paged_memory.specs.Paged.{PagedValue}

module _ {S : Type 0} where
  -- a page that was never brought in
  abbrev pub fresh : Page → PageValue S
  fresh page = record { origin = page; place = Fresh }

  -- the same of each of these pages
  abbrev pub all_fresh : List (ℕ × Page) → List (ℕ × PageValue S)
  all_fresh pages = map (λ e. (e.0, fresh e.1)) pages

  -- a memory has these pages, none of them brought in
  abbrev pub HasFresh : List (ℕ × Page) → PagedValue S → Type 0
  HasFresh pages memory = memory.pages ≡ all_fresh pages

  -- no page has a table, so that none is mapped to a frame
  abbrev pub HasNoTable : PagedValue S → Type 0
  HasNoTable memory = (number : ℕ) → number < 2 ^ 20 → has_table memory.tables number ≡ false

  -- one hart has a cache, and it is empty
  abbrev pub HasOneCache : PagedValue S → Type 0
  HasOneCache memory = memory.caches ≡ [] ∷ []

  -- no page is mapped at a number
  abbrev pub IsUnmapped : ℕ → PagedValue S → Type 0
  IsUnmapped number memory = place_of number memory.pages ≡ None

  -- one more page is mapped, after the others
  abbrev pub AddsFresh : ℕ → Page → PagedValue S → PagedValue S → Type 0
  AddsFresh number page old new = new ≡ record old { pages = old.pages ++ (number, fresh page) ∷ [] }

  -- pages of zeros are mapped at so many page numbers from the first on, wherever none was; nothing else changes
  pub record AddsZeros (first count : ℕ) (old new : PagedValue S) : Type 0 where
    pub added : new.pages ≡ with_added first count fresh_zero_page old.pages
    pub process : new.process ≡ old.process
    pub tables : new.tables ≡ old.tables
    pub caches : new.caches ≡ old.caches
    pub reserved : new.reserved ≡ old.reserved

  -- one more hart has a cache, which is empty
  abbrev pub AddsHart : PagedValue S → PagedValue S → Type 0
  AddsHart old new = new ≡ record old { caches = old.caches ++ [] ∷ [] }

  -- a process's memory with only these pages, none of them brought in, before any hart has a cache
  pub record MapsFresh (process : ℕ) (pages : List (ℕ × Page)) (memory : PagedValue S) : Type 0 where
    pub process_is : memory.process ≡ process
    pub mapped : HasFresh pages memory
    pub tables : HasNoTable memory
    pub caches : memory.caches ≡ []
    pub reserved : memory.reserved ≡ none_reserved
