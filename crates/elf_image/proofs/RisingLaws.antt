-- Pages by rising number: by places, and the regions that they lie in.
use Rattle.std.proofs.Common.{◌≡◌, ℕ, zero, suc, ◌+◌, ◌/◌, ◌<◌, ◌≤◌, Bool, true, false, cond, not, eqb, ◌&&◌, ◌||◌, ◌==◌, nat_lt, nat_le, List, [], ◌∷◌, ◌++◌, length, take, map, slice_index_or, Option, Some, None, arith, refl, sym, ap, ◌∙◌, subst, inl, inr, ltb-true, le-ltb, eq-eqb}
use Rattle.std.specs.List.{list_any}
use Rattle.std.specs.Option.{option_eq}
use Rattle.std.proofs.lemmas.List.{map-append, take_more, get_or_default}
use Rattle.std.proofs.lemmas.List.Folds.{list_any-append}
use Rattle.std.proofs.lemmas.Bool.Decides.{nat_tests, eqb_tells, leb_tells}
use Rattle.std.proofs.lemmas.Bool.{false≢true, and_parts, or_parts}
use Rattle.std.proofs.Math.Bool.{or-false}
use Rattle.elf_image.specs.declared.image.ImagePage.{ImagePage}
use Rattle.elf_image.specs.Parts.{rising, too_high}
use Rattle.elf_image.specs.Regions.{region_of, distinct, regions}

pub rises : (pages : List ImagePage) → ((k m : ℕ) (d : ImagePage) → m ≡ k + 1 → m < length pages → (slice_index_or pages k d).number < (slice_index_or pages m d).number) → rising pages ≡ true
unfolding rising
rises [] h = refl
rises (one ∷ []) h = refl
rises (one ∷ next ∷ rest) h =
    let below : one.number < next.number = h 0 1 one refl (omega arith) in
    let first : nat_lt one.number next.number ≡ true = grind (arith, nat_tests) in
    let others : rising (next ∷ rest) ≡ true = rises (next ∷ rest) (λ k m d e l. h (suc k) (suc m) d (omega arith) (omega arith)) in
    ap (λ b. b && rising (next ∷ rest)) first ∙ others

pub falls : (pages : List ImagePage) (k m : ℕ) (d : ImagePage) → m ≡ k + 1 → m < length pages → (slice_index_or pages m d).number ≤ (slice_index_or pages k d).number → rising pages ≡ false
unfolding rising
falls [] k m d e l h = absurd (omega arith)
falls (one ∷ []) k m d e l h = absurd (omega arith)
falls (one ∷ next ∷ rest) k zero d e l h = absurd (omega arith)
falls (one ∷ next ∷ rest) zero (suc zero) d e l h = ap (λ b. b && rising (next ∷ rest)) (le-ltb one.number next.number h)
falls (one ∷ next ∷ rest) zero (suc (suc m)) d e l h = absurd (omega arith)
falls (one ∷ next ∷ rest) (suc k) (suc m) d e l h = ap (λ b. nat_lt one.number next.number && b) (falls (next ∷ rest) k m d (omega arith) (omega arith) h) ∙ and_false (nat_lt one.number next.number)
  where
    and_false : (b : Bool) → (b && false) ≡ false
    and_false true = refl
    and_false false = refl

pub falls_at : (pages : List ImagePage) (k m : ℕ) (one next : ImagePage) → m ≡ k + 1 → m < length pages → (slice_index_or pages m next).number ≤ (slice_index_or pages k one).number → rising pages ≡ false
falls_at pages k m one next e l h =
    let same = ap (λ (p : ImagePage). p.number) (get_or_default pages m one next l) in
    falls pages k m one e l (omega arith)

pub rising_rest : (one : ImagePage) (rest : List ImagePage) → rising (one ∷ rest) ≡ true → rising rest ≡ true
unfolding rising
rising_rest one [] e = refl
rising_rest one (next ∷ rest) e = (and_parts _ _ e).1

rising_first : (one next : ImagePage) (rest : List ImagePage) → rising (one ∷ next ∷ rest) ≡ true → one.number < next.number
unfolding rising
rising_first one next rest e = ltb-true _ _ (and_parts _ _ e).0

-- the first number is below each later one
first_below : (one : ImagePage) (rest : List ImagePage) (j : ℕ) (d : ImagePage) → rising (one ∷ rest) ≡ true → j < length rest → one.number < (slice_index_or rest j d).number
first_below one [] j d e l = absurd (omega arith)
first_below one (next ∷ rest) zero d e l = rising_first one next rest e
first_below one (next ∷ rest) (suc j) d e l = let here = rising_first one next rest e in let there = first_below next rest j d (rising_rest one (next ∷ rest) e) (omega arith) in omega arith

pub rising_far : (pages : List ImagePage) → rising pages ≡ true → (i j : ℕ) (d : ImagePage) → i < j → j < length pages → (slice_index_or pages i d).number < (slice_index_or pages j d).number
rising_far [] e i j d below l = absurd (omega arith)
rising_far (one ∷ rest) e zero zero d below l = absurd (omega arith)
rising_far (one ∷ rest) e zero (suc j) d below l = first_below one rest j d e (omega arith)
rising_far (one ∷ rest) e (suc i) zero d below l = absurd (omega arith)
rising_far (one ∷ rest) e (suc i) (suc j) d below l = rising_far rest (rising_rest one rest e) i j d (omega arith) (omega arith)

pub rising_take : (n : ℕ) (pages : List ImagePage) → rising pages ≡ true → rising (take n pages) ≡ true
unfolding rising
rising_take zero pages e = refl
rising_take (suc n) [] e = refl
rising_take (suc zero) (one ∷ rest) e = refl
rising_take (suc (suc n)) (one ∷ []) e = refl
rising_take (suc (suc n)) (one ∷ next ∷ rest) e =
    let both = and_parts (nat_lt one.number next.number) (rising (next ∷ rest)) e in
    ap (λ b. b && rising (next ∷ take n rest)) both.0 ∙ rising_take (suc n) (next ∷ rest) both.1

-- no page lies too high
pub low_pages : (pages : List ImagePage) → too_high pages ≡ false → (i : ℕ) (d : ImagePage) → i < length pages → (slice_index_or pages i d).number < 458752
unfolding too_high
low_pages [] e i d l = absurd (omega arith)
low_pages (one ∷ rest) e zero d l = elim (leb_tells 458752 one.number) [
  | inl high ↦ absurd (false≢true (sym e ∙ ap (λ b. b || too_high rest) high.0))
  | inr low ↦ low.1
]
low_pages (one ∷ rest) e (suc i) d l = low_pages rest (or_parts (nat_le 458752 one.number) (too_high rest) e).1 i d (omega arith)

-- whether a value is among others
abbrev pub holds : ℕ → List ℕ → Bool
holds x xs = list_any (λ y. y == x) xs

abbrev pub new_one : Bool → ℕ
new_one true = 0
new_one false = 1

pub distinct_first : (x : ℕ) (xs : List ℕ) → length (distinct (x ∷ xs)) ≡ length (distinct xs) + new_one (holds x xs)
unfolding distinct
distinct_first x xs = by (holds x xs)
  where
    by : (b : Bool) → length (cond b (distinct xs) (x ∷ distinct xs)) ≡ length (distinct xs) + new_one b
    by true = omega arith
    by false = omega arith

at_same : (a t : Bool) → t ≡ true → new_one a + new_one (a || (t || false)) ≡ new_one a + new_one (t || a)
at_same true true e = refl
at_same true false e = absurd (false≢true e)
at_same false true e = refl
at_same false false e = absurd (false≢true e)

at_other : (a b t u : Bool) → t ≡ false → u ≡ false → new_one b + new_one (a || (u || false)) ≡ new_one a + new_one (t || b)
at_other a b true u e f = absurd (false≢true (sym e))
at_other a b false true e f = absurd (false≢true (sym f))
at_other true true false false e f = refl
at_other true false false false e f = refl
at_other false true false false e f = refl
at_other false false false false e f = refl

balanced : (x y : ℕ) (xs : List ℕ) → new_one (holds y xs) + new_one (holds x xs || ((y == x) || false)) ≡ new_one (holds x xs) + new_one ((x == y) || holds y xs)
balanced x y xs =
    elim (eqb_tells x y) [
      | inl same ↦ subst (λ z. new_one (holds z xs) + new_one (holds x xs || ((z == x) || false)) ≡ new_one (holds x xs) + new_one ((x == z) || holds z xs)) same.1 (at_same (holds x xs) (x == x) (grind (arith, nat_tests)))
      | inr other ↦ at_other (holds x xs) (holds y xs) (x == y) (y == x) other.0 (different y x (λ e. other.1 (sym e)))
    ]
  where
    different : (a b : ℕ) → (a ≡ b → ⊥) → (a == b) ≡ false
    different a b n = elim (eqb_tells a b) [ inl same ↦ absurd (n same.1) | inr other ↦ other.0 ]

-- one more value behind the others
pub distinct_last : (xs : List ℕ) (y : ℕ) → length (distinct (xs ++ y ∷ [])) ≡ length (distinct xs) + new_one (holds y xs)
distinct_last [] y = distinct_first y []
distinct_last (x ∷ xs) y =
    let more = distinct_last xs y in
    let front = distinct_first x (xs ++ y ∷ []) in
    let old = distinct_first x xs in
    let here : new_one (holds x (xs ++ y ∷ [])) ≡ new_one (holds x xs || ((y == x) || false)) = ap new_one (list_any-append (λ z. z == x) xs (y ∷ [])) in
    let even = balanced x y xs in
    omega (arith, more, front, old, here, even)

-- the region of the last page
abbrev pub last_region : List ImagePage → Option ℕ
last_region [] = None
last_region (one ∷ []) = Some (region_of one)
last_region (one ∷ next ∷ rest) = last_region (next ∷ rest)

abbrev pub is_region : ℕ → Option ℕ → Bool
is_region region None = false
is_region region (Some last) = last == region

last_region_push : (front : List ImagePage) (one : ImagePage) → last_region (front ++ one ∷ []) ≡ Some (region_of one)
last_region_push [] one = refl
last_region_push (a ∷ []) one = refl
last_region_push (a ∷ b ∷ front) one = last_region_push (b ∷ front) one

pushed_above : (next : ImagePage) (rest : List ImagePage) (one : ImagePage) → rising (next ∷ (rest ++ one ∷ [])) ≡ true → next.number < one.number
pushed_above next [] one e = rising_first next one [] e
pushed_above next (a ∷ rest) one e = let here = rising_first next a (rest ++ one ∷ []) e in let there = pushed_above a rest one (rising_rest next (a ∷ (rest ++ one ∷ [])) e) in omega arith

-- a page behind rising pages lies in one of their regions just where it lies in the last page's
held_last : (front : List ImagePage) (one : ImagePage) → rising (front ++ one ∷ []) ≡ true → holds (region_of one) (map region_of front) ≡ is_region (region_of one) (last_region front)
held_last [] one e = refl
held_last (a ∷ []) one e = or-false (region_of a == region_of one)
held_last (a ∷ b ∷ front) one e =
    let there : rising (b ∷ (front ++ one ∷ [])) ≡ true = rising_rest a (b ∷ (front ++ one ∷ [])) e in
    let first = rising_first a b (front ++ one ∷ []) e in
    let above = pushed_above b front one there in
    absorbed (region_of a == region_of one) (region_of b == region_of one) (holds (region_of one) (map region_of front)) (between a.number b.number one.number first above)
    ∙ held_last (b ∷ front) one there
  where
    between : (x y z : ℕ) → x < y → y < z → (x / 1024 == z / 1024) ≡ true → (y / 1024 == z / 1024) ≡ true
    between x y z l m e = elim (eqb_tells (x / 1024) (z / 1024)) [
      | inl same ↦ eq-eqb (y / 1024) (z / 1024) (let at = same.1 in omega arith)
      | inr other ↦ absurd (false≢true (sym other.0 ∙ e))
    ]

    absorbed : (x y h : Bool) → (x ≡ true → y ≡ true) → (x || (y || h)) ≡ (y || h)
    absorbed true true h f = refl
    absorbed true false h f = absurd (false≢true (f refl))
    absorbed false y h f = refl

-- what a step of the count does
pub regions_more : (pages : List ImagePage) (i : ℕ) (one : ImagePage) → rising pages ≡ true → i < length pages → one ≡ slice_index_or pages i one → length (regions (take (i + 1) pages)) ≡ length (regions (take i pages)) + new_one (is_region (region_of one) (last_region (take i pages)))
regions_more pages i one e l at =
    let more : take (i + 1) pages ≡ take i pages ++ one ∷ [] = take_more pages i one l ∙ ap (λ p. take i pages ++ p ∷ []) (sym at) in
    let front : rising (take i pages ++ one ∷ []) ≡ true = subst (λ p. rising p ≡ true) more (rising_take (i + 1) pages e) in
    ap (λ p. length (regions p)) more
    ∙ ap (λ p. length (distinct p)) (map-append region_of (take i pages) (one ∷ []))
    ∙ distinct_last (map region_of (take i pages)) (region_of one)
    ∙ ap (λ b. length (regions (take i pages)) + new_one b) (held_last (take i pages) one front)

pub last_region_more : (pages : List ImagePage) (i : ℕ) (one : ImagePage) → i < length pages → one ≡ slice_index_or pages i one → last_region (take (i + 1) pages) ≡ Some (region_of one)
last_region_more pages i one l at = ap last_region (take_more pages i one l ∙ ap (λ p. take i pages ++ p ∷ []) (sym at)) ∙ last_region_push (take i pages) one

pub distinct_none : length (distinct []) ≡ 0
unfolding distinct
distinct_none = refl

-- the count goes on by a page in another region than the last
pub count_new : (pages : List ImagePage) (i count : ℕ) (one : ImagePage) (last : Option ℕ) → rising pages ≡ true → i < length pages → one ≡ slice_index_or pages i one → count ≡ length (regions (take i pages)) → last ≡ last_region (take i pages) → not (option_eq eqb last (Some (region_of one))) ≡ true → count + 1 ≡ length (regions (take (i + 1) pages))
count_new pages i count one last e l at counted before apart =
    let more = regions_more pages i one e l at in
    let new = ap new_one (ap (is_region (region_of one)) (sym before) ∙ off last (region_of one) apart) in
    omega (arith, more, new)
  where
    off : (last : Option ℕ) (r : ℕ) → not (option_eq eqb last (Some r)) ≡ true → is_region r last ≡ false
    off None r h = refl
    off (Some x) r h = negated (x == r) h
      where
        negated : (b : Bool) → not b ≡ true → b ≡ false
        negated true h = absurd (false≢true h)
        negated false h = refl

-- and stays by a page in the same
pub count_old : (pages : List ImagePage) (i count : ℕ) (one : ImagePage) (last : Option ℕ) → rising pages ≡ true → i < length pages → one ≡ slice_index_or pages i one → count ≡ length (regions (take i pages)) → last ≡ last_region (take i pages) → not (option_eq eqb last (Some (region_of one))) ≡ false → (count ≡ length (regions (take (i + 1) pages))) × (last ≡ Some (region_of one))
count_old pages i count one last e l at counted before same =
    let more = regions_more pages i one e l at in
    let on_it = on last (region_of one) same in
    let new = ap new_one (ap (is_region (region_of one)) (sym before) ∙ on_it.0) in
    (omega (arith, more, new), on_it.1)
  where
    on : (last : Option ℕ) (r : ℕ) → not (option_eq eqb last (Some r)) ≡ false → (is_region r last ≡ true) × (last ≡ Some r)
    on None r h = absurd (false≢true (sym h))
    on (Some x) r h = elim (eqb_tells x r) [
      | inl equal ↦ (equal.0, ap (λ v. Some v) equal.1)
      | inr other ↦ absurd (false≢true (sym h ∙ ap not other.0))
    ]

-- rising pages lie in no more regions than there are from the first one's to the last one's
pub spread : (one : ImagePage) (rest : List ImagePage) (top : ℕ) → rising (one ∷ rest) ≡ true → ((k : ℕ) (d : ImagePage) → k < length (one ∷ rest) → (slice_index_or (one ∷ rest) k d).number / 1024 ≤ top) → length (regions (one ∷ rest)) + region_of one ≤ top + 1
spread one [] top e h = let here = h 0 one (omega arith) in omega (arith, distinct_first (region_of one) [], distinct_none)
spread one (next ∷ rest) top e h =
    let others = spread next rest top (rising_rest one (next ∷ rest) e) (λ k d l. h (suc k) d (omega arith)) in
    let more = distinct_first (region_of one) (map region_of (next ∷ rest)) in
    let below = rising_first one next rest e in
    step (length (regions (one ∷ next ∷ rest))) (length (regions (next ∷ rest))) one.number next.number top (holds (region_of one) (map region_of rest)) below others more
  where
    step : (new old x y top : ℕ) (h : Bool) → x < y → old + y / 1024 ≤ top + 1 → new ≡ old + new_one ((y / 1024 == x / 1024) || h) → new + x / 1024 ≤ top + 1
    step new old x y top h l o e = elim (eqb_tells (y / 1024) (x / 1024)) [
      | inl same ↦ let at = same.1 in let none : new ≡ old + 0 = e ∙ ap (λ b. old + new_one (b || h)) same.0 in omega arith
      | inr other ↦ let apart = other.1 in let few = at_most_one ((y / 1024 == x / 1024) || h) in omega arith
    ]
      where
        at_most_one : (b : Bool) → new_one b ≤ 1
        at_most_one true = omega arith
        at_most_one false = omega arith
