-- How the pages that a process begins with are mapped, one after another, and the pages of the stack behind them.
use Rattle.std.proofs.Common.{◌≡◌, ◌+◌, ◌-◌, ◌<◌, ◌∷◌, [], ◌++◌, ℕ, zero, suc, List, length, map, take, slice_index_or, None, arith, refl, sym, ap, ◌∙◌, subst, append-nil}
use Rattle.std.specs.List.{range_with_len}
use Rattle.page_memory.specs.Pages.{Page, zero_page}
use Rattle.page_memory.specs.Entries.{place_of, added, with_added}
use Rattle.page_memory.proofs.EntriesLaws.{no_place, added_behind}
use Rattle.elf_image.specs.declared.image.ImagePage.{ImagePage}
use Rattle.elf_image.specs.Image.{ArePages}
use Rattle.paged_memory.specs.Paged.{PagedValue}
use Rattle.flat_machine.specs.Process.{image_entry, stack_entry, opening_pages}
use Rattle.flat_machine.proofs.PlainRunLaws.{next_is}
use Rattle.flat_machine.proofs.PagesLaws.{KeysBelow, unmapped, images_below, stack_below, one_more_image, one_more_stack}
use Rattle.paged_memory.specs.Fresh.{HasFresh, IsUnmapped, AddsFresh, AddsZeros, AddsHart, MapsFresh}
use Rattle.paged_memory.proofs.FreshLaws.{unmapped_fresh, maps_one_more, maps_zeros, hart_fresh}

-- the pages of an image, and so many of the stack
so_far : List ImagePage → ℕ → List (ℕ × Page)
so_far pages k = map image_entry pages ++ map stack_entry (range_with_len 524224 k)

-- a page whose number is above all has no place
above : (n : ℕ) (entries : List (ℕ × Page)) → KeysBelow n entries → place_of n entries ≡ None
above n entries below = no_place entries n (unmapped n n entries below (omega arith))

image_absent : (pages : List ImagePage) (i : ℕ) (listed : ImagePage) → ArePages pages → i < length pages → listed ≡ slice_index_or pages i listed → place_of listed.number (map image_entry (take i pages)) ≡ None
image_absent pages i listed are within is =
    above listed.number (map image_entry (take i pages))
    (subst (λ (p : ImagePage). KeysBelow p.number (map image_entry (take i pages))) (sym is) (images_below pages i listed are within))

-- the pages of the stack, added behind those of the image
stack_absent : (pages : List ImagePage) (k : ℕ) → ArePages pages → place_of (524224 + k) (so_far pages k) ≡ None
unfolding so_far
stack_absent pages k are =
    let count : (524224 + k) - 524224 ≡ k = omega arith in
    above (524224 + k) (so_far pages k) (subst (λ n. KeysBelow (524224 + k) (map image_entry pages ++ map stack_entry (range_with_len 524224 n))) count (stack_below pages (524224 + k) are (omega arith)))

stack_more : (pages : List ImagePage) (k : ℕ) → ArePages pages → added (524224 + k) zero_page (so_far pages k) ≡ so_far pages (k + 1)
unfolding so_far
stack_more pages k are = added_behind (so_far pages k) (524224 + k) zero_page (stack_absent pages k are) ∙ one_more_stack pages k (524224 + k) refl

stack_added : (pages : List ImagePage) (k : ℕ) → ArePages pages → with_added 524224 k zero_page (map image_entry pages) ≡ so_far pages k
unfolding with_added so_far
stack_added pages zero are = sym (append-nil (map image_entry pages))
stack_added pages (suc k) are = ap (added (524224 + k) zero_page) (stack_added pages k are) ∙ stack_more pages k are ∙ ap (so_far pages) (sym (next_is k))

opening_added : (pages : List ImagePage) → ArePages pages → with_added 524224 64 zero_page (map image_entry pages) ≡ opening_pages pages
unfolding so_far
opening_added pages are = stack_added pages 64 are

module _ {S : Type 0} (process : ℕ) (pages : List ImagePage) (are : ArePages pages) (i : ℕ) where
  -- the next page of an image is not mapped yet
  pub image_unmapped : (listed : ImagePage) (memory : PagedValue S) → i < length pages → listed ≡ slice_index_or pages i listed → MapsFresh process (map image_entry (take i pages)) memory → IsUnmapped listed.number memory
  image_unmapped listed memory within is before = unmapped_fresh process (map image_entry (take i pages)) listed.number memory before (image_absent pages i listed are within is)

  -- and then it is
  pub one_more_mapped : (listed : ImagePage) (page : Page) (old new : PagedValue S) → i < length pages → listed ≡ slice_index_or pages i listed → page ≡ listed.page → AddsFresh listed.number page old new
      → MapsFresh process (map image_entry (take i pages)) old → MapsFresh process (map image_entry (take (i + 1) pages)) new
  one_more_mapped listed page old new within is same did before =
      subst (λ l. MapsFresh process l new)
      (ap (λ p. map image_entry (take i pages) ++ (listed.number, p) ∷ []) same
      ∙ ap (λ (p : ImagePage). map image_entry (take i pages) ++ image_entry p ∷ []) is
      ∙ one_more_image pages i listed within)
      (maps_one_more process (map image_entry (take i pages)) listed.number page old new did before)

  -- once all of an image's pages are mapped, and the stack behind them, and a hart has its cache
  pub opening_mapped : (imaged stacked opened : PagedValue S) → take i pages ≡ pages → MapsFresh process (map image_entry (take i pages)) imaged → AddsZeros 524224 64 imaged stacked → AddsHart stacked opened → HasFresh (opening_pages pages) opened
  opening_mapped imaged stacked opened all maps zeros hart =
      let whole : with_added 524224 64 zero_page (map image_entry (take i pages)) ≡ opening_pages pages = ap (λ l. with_added 524224 64 zero_page (map image_entry l)) all ∙ opening_added pages are in
      let stack : MapsFresh process (opening_pages pages) stacked = subst (λ l. MapsFresh process l stacked) whole (maps_zeros process (map image_entry (take i pages)) 524224 64 imaged stacked zeros maps) in
      hart_fresh (opening_pages pages) stacked opened hart stack.mapped
