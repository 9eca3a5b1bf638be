-- What memory holds once pages of zeros were mapped in a range.
use Rattle.std.proofs.Common.{◌≡◌, ℕ, zero, suc, ◌+◌, ◌<◌, ◌==◌, ◌&&◌, ◌||◌, nat_lt, nat_le, Bool, true, false, cond, List, option_and_then, Option, Some, None, ap, ◌∙◌, sym, refl, inl, inr, arith}
use Rattle.std.proofs.lemmas.Bool.Decides.{nat_tests, eqb_tells}
use Rattle.std.specs.Ordering.{nat_cmp, eq_by_cmp}
use Rattle.std.specs.Cmp.{nat_cmp_total}
use Rattle.std.specs.FinMap.{get, get-insert, from_entries}
use Rattle.page_memory.specs.Entries.{place_of, value_at, added_unless, added, with_added, LacksOne}
use Rattle.page_memory.proofs.EntriesLaws.{value_by_place, has_value, inserted, no_value}
use Rattle.page_memory.specs.Pages.{Page, Pages, zero_page, zeroed_unless, zeroed_at, with_zeroed, HasGap}

-- a page that was mapped stays as it was; a new page of zeros is where the test says so
abbrev pub kept_or_zero : Option Page → Bool → Option Page
kept_or_zero (Some page) zeroed = Some page
kept_or_zero None true = Some zero_page
kept_or_zero None false = None

same_key : (q page : ℕ) → eq_by_cmp nat_cmp q page ≡ (q == page)
same_key q page = grind (arith, nat_tests)

stays : (page : Option Page) → kept_or_zero page false ≡ page
stays None = refl
stays (Some page) = refl

at_number : (number : ℕ) (memory : Pages) (q : ℕ) (found : Option Page) → get memory number ≡ found → get (zeroed_unless found memory number) q ≡ kept_or_zero (get memory q) (q == number)
at_number number memory q None none =
    get-insert nat_cmp_total memory number zero_page q ∙ ap (λ b. cond b (Some zero_page) (get memory q)) (same_key q number)
    ∙ elim (eqb_tells q number) [
      | inl same ↦ rw same.0 (sym (ap (λ p. kept_or_zero p true) (ap (get memory) same.1 ∙ none)))
      | inr apart ↦ rw apart.0 (sym (stays (get memory q)))
    ]
at_number number memory q (Some page) some =
    elim (eqb_tells q number) [
      | inl same ↦ rw same.0 (let here : get memory q ≡ Some page = ap (get memory) same.1 ∙ some in rw here refl)
      | inr apart ↦ rw apart.0 (sym (stays (get memory q)))
    ]

-- one page of zeros
pub get-zeroed_at : (number : ℕ) (memory : Pages) (q : ℕ) → get (zeroed_at number memory) q ≡ kept_or_zero (get memory q) (q == number)
unfolding zeroed_at
get-zeroed_at number memory q = at_number number memory q (get memory number) refl

twice : (page : Option Page) (a b : Bool) → kept_or_zero (kept_or_zero page a) b ≡ kept_or_zero page (a || b)
twice None true b = refl
twice None false b = refl
twice (Some page) a b = refl

-- whether a page number is among so many from the first on
abbrev pub in_range : ℕ → ℕ → ℕ → Bool
in_range first count number = nat_le first number && nat_lt number (first + count)

none_in : (first q : ℕ) → in_range first 0 q ≡ false
none_in first q = grind (arith, nat_tests)

one_more : (first count q : ℕ) → (in_range first count q || (q == first + count)) ≡ in_range first (suc count) q
one_more first count q = grind (arith, nat_tests)

-- pages of zeros in a range: what was mapped stays, and the range's other pages are zero
pub get-with_zeroed : (first count : ℕ) (memory : Pages) (q : ℕ) → get (with_zeroed first count memory) q ≡ kept_or_zero (get memory q) (in_range first count q)
unfolding with_zeroed
get-with_zeroed first zero memory q = sym (ap (kept_or_zero (get memory q)) (none_in first q) ∙ stays (get memory q))
get-with_zeroed first (suc count) memory q =
    get-zeroed_at (first + count) (with_zeroed first count memory) q ∙ ap (λ p. kept_or_zero p (q == first + count)) (get-with_zeroed first count memory q)
    ∙ twice (get memory q) (in_range first count q) (q == first + count) ∙ ap (kept_or_zero (get memory q)) (one_more first count q)

-- the page map that stands for a memory gets the same pages
zero_case : (entries : List (ℕ × Page)) (number : ℕ) (place : Option ℕ) → place_of number entries ≡ place → from_entries {R = nat_cmp} (added_unless place number zero_page entries) ≡ zeroed_unless (get (from_entries {R = nat_cmp} entries) number) (from_entries entries) number
zero_case entries number None absent = inserted entries number zero_page absent ∙ ap (λ o. zeroed_unless o (from_entries entries) number) (sym (no_value entries number absent))
zero_case entries number (Some place) at =
    let value = has_value entries number place at in
    let found : get (from_entries {R = nat_cmp} entries) number ≡ Some value.0 = value_by_place entries number ∙ ap (option_and_then (λ k. value_at k entries)) at ∙ value.1 in
    sym (ap (λ o. zeroed_unless o (from_entries entries) number) found)

pub added_zeroed : (entries : List (ℕ × Page)) (first count : ℕ) → from_entries {R = nat_cmp} (with_added first count zero_page entries) ≡ with_zeroed first count (from_entries entries)
unfolding with_added with_zeroed added zeroed_at
added_zeroed entries first zero = refl
added_zeroed entries first (suc count) =
    zero_case (with_added first count zero_page entries) (first + count) (place_of (first + count) (with_added first count zero_page entries)) refl
    ∙ ap (zeroed_at (first + count)) (added_zeroed entries first count)

-- entries that lack one of these page numbers stand for pages that do
pub lacks_page : (entries : List (ℕ × Page)) (first count : ℕ) → LacksOne first count entries → HasGap first count (from_entries entries)
lacks_page entries first count lacks =
    record { number = lacks.number; above = lacks.above; below = lacks.below; absent = no_value entries lacks.number lacks.absent }

-- where a page is missing among so many, they are not none
pub gap_counts : (first count : ℕ) (memory : Pages) → HasGap first count memory → 0 < count
gap_counts first count memory gap = let above = gap.above in let below = gap.below in omega (arith, above, below)
