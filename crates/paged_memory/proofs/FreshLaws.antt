-- Laws of the memory that a process begins with: one page after another, pages of zeros, and a hart's cache.
use Rattle.std.proofs.Common.{◌≡◌, ◌∷◌, [], ◌++◌, ◌+◌, ℕ, zero, suc, List, map, Option, Some, None, refl, sym, ap, ◌∙◌}
use Rattle.std.specs.FinMap.{from_entries}
use Rattle.std.proofs.lemmas.List.{map-append}
use Rattle.frame_pool.specs.FrameValue.{zero_bytes}
use Rattle.page_memory.specs.Entries.{place_of, added_unless, added, with_added, map_by}
use Rattle.page_memory.proofs.StandsForLaws.{place_of-each}
use Rattle.page_memory.specs.Memory.{unreserved}
use Rattle.page_memory.specs.Pages.{Page, zero_page}
use Rattle.page_memory.specs.Reservations.{none_reserved}
use Rattle.sv32_table.specs.EntryAt.{has_table}
use Rattle.paged_memory.specs.Fresh.{fresh, all_fresh, HasFresh, IsUnmapped, AddsFresh, AddsZeros, AddsHart, MapsFresh}
use Rattle.page_store.specs.PageValue.{fresh_zero_page}
use Rattle.paged_memory.specs.Paged.{PagedValue, flat_page, flat_pages, memory_of}

module _ (S : Type 0) where
  one_more_fresh : (pages : List (ℕ × Page)) (number : ℕ) (page : Page) → all_fresh {S = S} pages ++ (number, fresh page) ∷ [] ≡ all_fresh (pages ++ (number, page) ∷ [])
  one_more_fresh pages number page = sym (map-append (λ e. (e.0, fresh e.1)) pages ((number, page) ∷ []))

  -- to add a page that was never brought in is to add it among those that a process begins with
  added_by_place : (pages : List (ℕ × Page)) (number : ℕ) (page : Page) (place : Option ℕ) → added_unless place number (fresh page) (all_fresh {S = S} pages) ≡ all_fresh (added_unless place number page pages)
  added_by_place pages number page None = one_more_fresh pages number page
  added_by_place pages number page (Some place) = refl

  added_fresh : (pages : List (ℕ × Page)) (number : ℕ) (page : Page) → added number (fresh page) (all_fresh {S = S} pages) ≡ all_fresh (added number page pages)
  unfolding added
  added_fresh pages number page =
      ap (λ place. added_unless place number (fresh page) (all_fresh pages)) (place_of-each fresh pages number) ∙ added_by_place pages number page (place_of number pages)

  all_added : (pages : List (ℕ × Page)) (first count : ℕ) (page : Page) → with_added first count (fresh page) (all_fresh {S = S} pages) ≡ all_fresh (with_added first count page pages)
  unfolding with_added
  all_added pages first zero page = refl
  all_added pages first (suc count) page = ap (added (first + count) (fresh page)) (all_added pages first count page) ∙ added_fresh (with_added first count page pages) (first + count) page

  zeros_fresh : fresh_zero_page {S = S} ≡ fresh zero_page
  unfolding zero_bytes
  zeros_fresh = refl

module _ {S : Type 0} where
  -- where no page of a number is among those that a memory has, none is mapped
  pub unmapped_fresh : (process : ℕ) (pages : List (ℕ × Page)) (number : ℕ) (memory : PagedValue S) → MapsFresh process pages memory → place_of number pages ≡ None → IsUnmapped number memory
  unmapped_fresh process pages number memory maps none = ap (place_of number) maps.mapped ∙ place_of-each fresh pages number ∙ none

  -- one more page is mapped
  pub maps_one_more : (process : ℕ) (pages : List (ℕ × Page)) (number : ℕ) (page : Page) (old new : PagedValue S) → AddsFresh number page old new → MapsFresh process pages old
      → MapsFresh process (pages ++ (number, page) ∷ []) new
  maps_one_more process pages number page old new did before = record {
    process_is = ap (λ (m : PagedValue S). m.process) did ∙ before.process_is;
    mapped = ap (λ (m : PagedValue S). m.pages) did ∙ ap (λ l. l ++ (number, fresh page) ∷ []) before.mapped ∙ one_more_fresh S pages number page;
    tables = λ n small. ap (λ (m : PagedValue S). has_table m.tables n) did ∙ before.tables n small;
    caches = ap (λ (m : PagedValue S). m.caches) did ∙ before.caches;
    reserved = ap (λ (m : PagedValue S). m.reserved) did ∙ before.reserved;
  }

  -- pages of zeros are mapped, wherever none was
  pub maps_zeros : (process : ℕ) (pages : List (ℕ × Page)) (first count : ℕ) (old new : PagedValue S) → AddsZeros first count old new → MapsFresh process pages old
      → MapsFresh process (with_added first count zero_page pages) new
  maps_zeros process pages first count old new did before = record {
    process_is = did.process ∙ before.process_is;
    mapped = did.added ∙ ap (with_added first count fresh_zero_page) before.mapped ∙ ap (λ page. with_added first count page (all_fresh pages)) (zeros_fresh S) ∙ all_added S pages first count zero_page;
    tables = λ n small. ap (λ tables. has_table tables n) did.tables ∙ before.tables n small;
    caches = did.caches ∙ before.caches;
    reserved = did.reserved ∙ before.reserved;
  }

  -- a hart gets its cache, and the pages are the same
  pub hart_fresh : (pages : List (ℕ × Page)) (old new : PagedValue S) → AddsHart old new → HasFresh pages old → HasFresh pages new
  hart_fresh pages old new did has = ap (λ (m : PagedValue S). m.pages) did ∙ has

  -- pages that were never brought in show what they began with
  each_shown : (held : S → List ℕ) (pages : List (ℕ × Page)) → map (λ e. (e.0, flat_page held e.1)) (all_fresh pages) ≡ pages
  each_shown held [] = refl
  each_shown held (e ∷ es) = ap (λ l. e ∷ l) (each_shown held es)

  memory_fresh : (held : S → List ℕ) (pages : List (ℕ × Page)) → flat_pages held (all_fresh pages) ≡ from_entries pages
  unfolding flat_pages map_by
  memory_fresh held pages = ap from_entries (each_shown held pages)

  pub fresh_shown : (held : S → List ℕ) (pages : List (ℕ × Page)) (memory : PagedValue S) → HasFresh pages memory → memory.reserved ≡ none_reserved → memory_of held memory ≡ unreserved (from_entries pages)
  fresh_shown held pages memory has reserved =
      let shown : flat_pages held memory.pages ≡ from_entries pages = ap (flat_pages held) has ∙ memory_fresh held pages in
      λ i. record { pages = shown i; reserved = reserved i }
