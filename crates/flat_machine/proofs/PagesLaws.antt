-- How the pages that a process begins with are mapped one after another.
use Rattle.std.proofs.Common.{◌≡◌, ℕ, zero, suc, ◌+◌, ◌-◌, ◌<◌, ◌≤◌, List, [], ◌∷◌, ◌++◌, length, take, map, slice_index_or, Some, None, false, cond, arith, refl, sym, ap, ◌∙◌, subst, append_assoc}
use Rattle.std.specs.List.{range_with_len}
use Rattle.std.specs.Ordering.{nat_cmp, eq_by_cmp}
use Rattle.std.specs.Cmp.{nat_cmp_total}
use Rattle.std.specs.FinMap.{get, insert, from_entries, find, get-from_entries, from_entries_push, nat_cmp-IsAntisymmetric}
use Rattle.std.proofs.lemmas.List.{map-append, take_more, length-take, get_or-take, get_or_default}
use Rattle.std.proofs.lemmas.List.FromFn.{map-range_with_len_more}
use Rattle.std.proofs.lemmas.Bool.Decides.{nat_tests}
use Rattle.page_memory.specs.Pages.{Page}
use Rattle.elf_image.specs.declared.image.ImagePage.{ImagePage}
use Rattle.elf_image.specs.Image.{ArePages}
use Rattle.flat_machine.specs.Process.{image_entry, stack_entry}

-- every page number is below a number
abbrev pub KeysBelow : ℕ → List (ℕ × Page) → Type 0
KeysBelow n [] = Unit {0}
KeysBelow n (entry ∷ entries) = (entry.0 < n) × KeysBelow n entries

other_key : (q page : ℕ) → page < q → eq_by_cmp nat_cmp q page ≡ false
other_key q page h = grind (arith, nat_tests)

not_found : (n q : ℕ) (entries : List (ℕ × Page)) → KeysBelow n entries → n ≤ q → find nat_cmp q entries ≡ None
not_found n q [] below h = refl
not_found n q (entry ∷ entries) below h =
    let at : entry.0 < q = let first = below.0 in omega arith in
    ap (λ b. cond b (Some entry.1) (find nat_cmp q entries)) (other_key q entry.0 at) ∙ not_found n q entries below.1 h

-- a page whose number is above all is not mapped
pub unmapped : (n q : ℕ) (entries : List (ℕ × Page)) → KeysBelow n entries → n ≤ q → get (from_entries {R = nat_cmp} entries) q ≡ None
unmapped n q entries below h = get-from_entries nat_cmp_total entries q ∙ not_found n q entries below h

-- and to map it is one more entry
pub one_more_page : (n q : ℕ) (page : Page) (entries : List (ℕ × Page)) → KeysBelow n entries → n ≤ q → insert (from_entries {R = nat_cmp} entries) q page ≡ from_entries (entries ++ (q, page) ∷ [])
one_more_page n q page entries below h = sym (from_entries_push nat_cmp_total nat_cmp-IsAntisymmetric entries q page (not_found n q entries below h))

KeysBelow-append : (n : ℕ) (xs ys : List (ℕ × Page)) → KeysBelow n xs → KeysBelow n ys → KeysBelow n (xs ++ ys)
KeysBelow-append n [] ys a b = b
KeysBelow-append n (x ∷ xs) ys a b = (a.0, KeysBelow-append n xs ys a.1 b)

KeysBelow-above : (n m : ℕ) (xs : List (ℕ × Page)) → n ≤ m → KeysBelow n xs → KeysBelow m xs
KeysBelow-above n m [] h a = tt
KeysBelow-above n m (x ∷ xs) h a = (let first = a.0 in omega arith, KeysBelow-above n m xs h a.1)

KeysBelow-images : (n : ℕ) (pages : List ImagePage) → ((j : ℕ) (d : ImagePage) → j < length pages → (slice_index_or pages j d).number < n) → KeysBelow n (map image_entry pages)
KeysBelow-images n [] each = tt
KeysBelow-images n (page ∷ pages) each = (each 0 page (omega arith), KeysBelow-images n pages (λ j d h. each (suc j) d (omega arith)))

KeysBelow-stack : (start k : ℕ) → KeysBelow (start + k) (map stack_entry (range_with_len start k))
KeysBelow-stack start zero = tt
KeysBelow-stack start (suc k) = (omega arith, subst (λ n. KeysBelow n (map stack_entry (range_with_len (start + 1) k))) (omega arith) (KeysBelow-stack (start + 1) k))

-- the first pages of an image have numbers below the next one's
pub images_below : (pages : List ImagePage) (i : ℕ) (d : ImagePage) → ArePages pages → i < length pages → KeysBelow (slice_index_or pages i d).number (map image_entry (take i pages))
images_below pages i d are h =
    KeysBelow-images _ (take i pages) (λ j e l.
    let shorter : j < i = (let cut = length-take i pages in omega arith) in
    let at : slice_index_or (take i pages) j e ≡ slice_index_or pages j d = get_or-take i pages j e shorter ∙ get_or_default pages j e d (omega arith) in
    subst (λ (p : ImagePage). p.number < (slice_index_or pages i d).number) (sym at) (are.rising j i d shorter h))

-- the pages of an image and of the stack so far have numbers below the next one of the stack
pub stack_below : (pages : List ImagePage) (number : ℕ) → ArePages pages → 524224 ≤ number → KeysBelow number (map image_entry pages ++ map stack_entry (range_with_len 524224 (number - 524224)))
stack_below pages number are h =
    KeysBelow-append number (map image_entry pages) _
    (KeysBelow-above 458752 number _ (omega arith) (KeysBelow-images 458752 pages are.low))
    (let at : 524224 + (number - 524224) ≡ number = omega arith in subst (λ n. KeysBelow n (map stack_entry (range_with_len 524224 (number - 524224)))) at (KeysBelow-stack 524224 (number - 524224)))

-- one more page of the stack
pub one_more_stack : (pages : List ImagePage) (k number : ℕ) → 524224 + k ≡ number
    → (map image_entry pages ++ map stack_entry (range_with_len 524224 k)) ++ stack_entry number ∷ [] ≡ map image_entry pages ++ map stack_entry (range_with_len 524224 (k + 1))
one_more_stack pages k number at =
    append_assoc (map image_entry pages) _ _ ∙ ap (λ l. map image_entry pages ++ l) (sym (map-range_with_len_more stack_entry 524224 k number at))

-- one more page of the image
pub one_more_image : (pages : List ImagePage) (i : ℕ) (d : ImagePage) → i < length pages
    → map image_entry (take i pages) ++ image_entry (slice_index_or pages i d) ∷ [] ≡ map image_entry (take (i + 1) pages)
one_more_image pages i d h = sym (ap (map image_entry) (take_more pages i d h) ∙ map-append image_entry (take i pages) (slice_index_or pages i d ∷ []))
