-- Which page a process begins with at a page number: one of its image, one of its stack, or none.
use Rattle.std.proofs.Common.{◌≡◌, ◌≢◌, ℕ, zero, suc, ◌+◌, ◌<◌, ◌≤◌, ◌⊎◌, inl, inr, List, [], ◌∷◌, ◌++◌, length, map, slice_index_or, Option, Some, None, true, false, cond, arith, refl, ap, ◌∙◌}
use Rattle.std.specs.List.{range_with_len}
use Rattle.std.specs.Ordering.{nat_cmp, eq_by_cmp}
use Rattle.std.specs.Cmp.{nat_cmp_total}
use Rattle.std.specs.FinMap.{get, from_entries, find, get-from_entries}
use Rattle.std.proofs.lemmas.Bool.Decides.{nat_tests, eqb_tells}
use Rattle.page_memory.specs.Pages.{Page, zero_page}
use Rattle.elf_image.specs.declared.image.ImagePage.{ImagePage}
use Rattle.elf_image.specs.Image.{ArePages}
use Rattle.flat_machine.specs.Process.{image_entry, stack_entry, opening_pages}

same_key : (q page : ℕ) → page ≡ q → eq_by_cmp nat_cmp q page ≡ true
same_key q page h = grind (arith, nat_tests)

other_key : (q page : ℕ) → page ≢ q → eq_by_cmp nat_cmp q page ≡ false
other_key q page h = grind (arith, nat_tests)

-- found at the head, or behind it
here : (entry : ℕ × Page) (entries : List (ℕ × Page)) (q : ℕ) → entry.0 ≡ q → find nat_cmp q (entry ∷ entries) ≡ Some entry.1
here entry entries q h = ap (λ b. cond b (Some entry.1) (find nat_cmp q entries)) (same_key q entry.0 h)

behind : (entry : ℕ × Page) (entries : List (ℕ × Page)) (q : ℕ) → entry.0 ≢ q → find nat_cmp q (entry ∷ entries) ≡ find nat_cmp q entries
behind entry entries q h = ap (λ b. cond b (Some entry.1) (find nat_cmp q entries)) (other_key q entry.0 h)

-- pages of an image with other numbers are passed over
past_image : (pages : List ImagePage) (rest : List (ℕ × Page)) (q : ℕ) → ((i : ℕ) (d : ImagePage) → i < length pages → (slice_index_or pages i d).number ≢ q)
    → find nat_cmp q (map image_entry pages ++ rest) ≡ find nat_cmp q rest
past_image [] rest q others = refl
past_image (page ∷ pages) rest q others =
    behind (image_entry page) (map image_entry pages ++ rest) q (others 0 page (omega arith)) ∙ past_image pages rest q (λ i d h. others (suc i) d (omega arith))

in_image : (pages : List ImagePage) (rest : List (ℕ × Page)) (i : ℕ) (d : ImagePage) → ((i j : ℕ) (d : ImagePage) → i < j → j < length pages → (slice_index_or pages i d).number < (slice_index_or pages j d).number)
    → i < length pages → find nat_cmp (slice_index_or pages i d).number (map image_entry pages ++ rest) ≡ Some (slice_index_or pages i d).page
in_image [] rest i d rising within = absurd (omega arith)
in_image (page ∷ pages) rest zero d rising within = here (image_entry page) (map image_entry pages ++ rest) page.number refl
in_image (page ∷ pages) rest (suc i) d rising within =
    behind (image_entry page) (map image_entry pages ++ rest) (slice_index_or pages i d).number (let less = rising 0 (suc i) d (omega arith) within in omega arith)
    ∙ in_image pages rest i d (λ a b e h w. rising (suc a) (suc b) e (omega arith) (omega arith)) (omega arith)

in_range : (start count q : ℕ) → start ≤ q → q < start + count → find nat_cmp q (map stack_entry (range_with_len start count)) ≡ Some zero_page
in_range start zero q above below = absurd (omega arith)
in_range start (suc count) q above below =
    elim (eqb_tells start q) [
      | inl same ↦ here (stack_entry start) (map stack_entry (range_with_len (start + 1) count)) q same.1
      | inr other ↦
          behind (stack_entry start) (map stack_entry (range_with_len (start + 1) count)) q other.1
          ∙ in_range (start + 1) count q (let apart = other.1 in omega arith) (omega arith)
    ]

outside : (start count q : ℕ) → ((q < start) ⊎ (start + count ≤ q)) → find nat_cmp q (map stack_entry (range_with_len start count)) ≡ None
outside start zero q apart = refl
outside start (suc count) q apart =
    behind (stack_entry start) (map stack_entry (range_with_len (start + 1) count)) q (omega arith)
    ∙ outside (start + 1) count q (elim apart [ inl less ↦ inl (omega arith) | inr more ↦ inr (omega arith) ])

found : (pages : List ImagePage) (q : ℕ) (o : Option Page) → find nat_cmp q (opening_pages pages) ≡ o → get (from_entries {R = nat_cmp} (opening_pages pages)) q ≡ o
found pages q o e = get-from_entries nat_cmp_total (opening_pages pages) q ∙ e

-- a page of the image
pub image_page_at : (pages : List ImagePage) (i : ℕ) (d : ImagePage) → ArePages pages → i < length pages
    → get (from_entries {R = nat_cmp} (opening_pages pages)) (slice_index_or pages i d).number ≡ Some (slice_index_or pages i d).page
image_page_at pages i d are within = found pages _ _ (in_image pages (map stack_entry (range_with_len 524224 64)) i d are.rising within)

-- a page of the stack
pub stack_page_at : (pages : List ImagePage) (number : ℕ) → ArePages pages → 524224 ≤ number → number < 524288
    → get (from_entries {R = nat_cmp} (opening_pages pages)) number ≡ Some zero_page
stack_page_at pages number are above below =
    found pages number (Some zero_page)
    (past_image pages (map stack_entry (range_with_len 524224 64)) number (λ i d h. let low = are.low i d h in omega arith) ∙ in_range 524224 64 number above below)

-- no page
pub no_page_at : (pages : List ImagePage) (number : ℕ) → ((i : ℕ) (d : ImagePage) → i < length pages → (slice_index_or pages i d).number ≢ number)
    → ((number < 524224) ⊎ (524288 ≤ number)) → get (from_entries {R = nat_cmp} (opening_pages pages)) number ≡ None
no_page_at pages number others apart =
    found pages number None (past_image pages (map stack_entry (range_with_len 524224 64)) number others ∙ outside 524224 64 number apart)
