-- Numbers counted below a bound, as they are put in and taken out in order.
use Rattle.std.specs.Prelude.{◌≡◌, ℕ, suc, ◌+◌, ◌<◌, ◌≤◌, ◌==◌, Bool, true, false, cond, nat_lt, List, [], ◌∷◌, ◌++◌, length, refl, slice_index_or, slice_get, Option, Some, None, IsSome, IfSome, ◌↔◌}
use Rattle.std.proofs.Common.{arith, sym, ap, subst, ◌∙◌, Less, Equal, Greater}
use Rattle.std.proofs.lemmas.Bool.Decides.{nat_tests}
use Rattle.std.proofs.lemmas.Option.{same_Some}
use Rattle.std.specs.List.{All}
use Rattle.std.specs.declared.cmp.Ordering.{Ordering}
use Rattle.std.specs.Ordering.{nat_cmp, is_gt, match_ordering}
use Rattle.std.specs.BTreeSet.{insert_key}
use Rattle.std.specs.BTreeMap.Range.{IsLeBy, IsLtBy}
use Rattle.page_policies.proofs.NumberLaws.{yes_less, no_less}
use Rattle.whole_strings.specs.NextPlaces.{under, Roomed}

pub under_few : (t : ℕ) (xs : List ℕ) → under t xs ≤ length xs
under_few t [] = omega arith
under_few t (x ∷ xs) =
    let later : under t xs ≤ length xs = under_few t xs in
    elim (nat_lt x t) as (λ b. cond b 1 0 + under t xs ≤ suc (length xs)) [ true ↦ omega (arith, later) | false ↦ omega (arith, later) ]

pub under_more : (t : ℕ) (xs : List ℕ) → under t xs ≤ under (suc t) xs
under_more t [] = omega arith
under_more t (x ∷ xs) =
    let later : under t xs ≤ under (suc t) xs = under_more t xs in
    more (nat_lt x t) (nat_lt x (suc t)) (below x t) (under t xs) (under (suc t) xs) later
  where
    below : (x t : ℕ) → nat_lt x t ≡ true → nat_lt x (suc t) ≡ true
    below x t h = grind (arith, nat_tests)

    more : (a b : Bool) → (a ≡ true → b ≡ true) → (n k : ℕ) → n ≤ k → cond a 1 0 + n ≤ cond b 1 0 + k
    more true true i n k h = omega (arith, h)
    more true false i n k h = absurd (no (i refl))
      where
        no : false ≡ true → ⊥
        no e = cc
    more false true i n k h = omega (arith, h)
    more false false i n k h = omega (arith, h)

-- all of them are below t, or none
pub under_all : (t : ℕ) (xs : List ℕ) → All (λ x. x < t) xs → under t xs ≡ length xs
under_all t [] all = refl
under_all t (x ∷ xs) all =
    let later : under t xs ≡ length xs = under_all t xs (λ k d h. all (suc k) d (omega (arith, h))) in
    rw (first x t (all 0 0 (omega arith))) (omega (arith, later))
  where
    first : (x t : ℕ) → x < t → nat_lt x t ≡ true
    first x t h = grind (arith, nat_tests)

pub under_none : (t : ℕ) (xs : List ℕ) → All (λ x. t ≤ x) xs → under t xs ≡ 0
under_none t [] all = refl
under_none t (x ∷ xs) all =
    let later : under t xs ≡ 0 = under_none t xs (λ k d h. all (suc k) d (omega (arith, h))) in
    rw (first x t (all 0 0 (omega arith))) (omega (arith, later))
  where
    first : (x t : ℕ) → t ≤ x → nat_lt x t ≡ false
    first x t h = grind (arith, nat_tests)

pub under_end : (t k : ℕ) (xs : List ℕ) → under t (xs ++ k ∷ []) ≡ under t xs + cond (nat_lt k t) 1 0
under_end t k [] = elim (nat_lt k t) as (λ b. cond b 1 0 + 0 ≡ 0 + cond b 1 0) [ true ↦ refl | false ↦ refl ]
under_end t k (x ∷ xs) = let later : under t (xs ++ k ∷ []) ≡ under t xs + cond (nat_lt k t) 1 0 = under_end t k xs in omega (arith, later)

-- a number that is not there yet is put in
cancel : (a b : Bool) → a ≡ b → (n k : ℕ) → cond a 1 0 + n ≡ cond b 1 0 + k → n ≡ k
cancel true true is n k h = omega (arith, h)
cancel false false is n k h = omega (arith, h)
cancel true false is n k h = cc
cancel false true is n k h = cc

not_first : (k x : ℕ) (xs : List ℕ) → (k == x) ≡ true → under (suc k) (x ∷ xs) ≡ under k (x ∷ xs) → ⊥
not_first k x xs is e =
    let more : under k xs ≤ under (suc k) xs = under_more k xs in
    let f : 1 + under (suc k) xs ≡ 0 + under k xs = sym (ap (λ (b : Bool). cond b 1 0 + under (suc k) xs) (yes_below k x is)) ∙ (e ∙ ap (λ (b : Bool). cond b 1 0 + under k xs) (no_below k x is)) in
    omega (arith, more, f)
  where
    yes_below : (k x : ℕ) → (k == x) ≡ true → nat_lt x (suc k) ≡ true
    yes_below k x h = grind (arith, nat_tests)

    no_below : (k x : ℕ) → (k == x) ≡ true → nat_lt x k ≡ false
    no_below k x h = grind (arith, nat_tests)

absent_rest : (k x : ℕ) (xs : List ℕ) → nat_lt k x ≡ false → (k == x) ≡ false → under (suc k) (x ∷ xs) ≡ under k (x ∷ xs) → under (suc k) xs ≡ under k xs
absent_rest k x xs h g e = cancel (nat_lt x (suc k)) (nat_lt x k) (alike k x h g) (under (suc k) xs) (under k xs) e
  where
    alike : (k x : ℕ) → nat_lt k x ≡ false → (k == x) ≡ false → nat_lt x (suc k) ≡ nat_lt x k
    alike k x h g = grind (arith, nat_tests)

pub insert_under : (k t : ℕ) (xs : List ℕ) → under (suc k) xs ≡ under k xs → under t (insert_key nat_cmp xs k) ≡ cond (nat_lt k t) 1 0 + under t xs
insert_under k t [] e = refl
insert_under k t (x ∷ xs) e = elim (nat_lt k x) as (λ b. nat_lt k x ≡ b → under t (put (cond b Less (cond (k == x) Equal Greater))) ≡ cond (nat_lt k t) 1 0 + under t (x ∷ xs)) [
  | true ↦ λ h. refl
  | false ↦ λ h. elim (k == x) as (λ b. (k == x) ≡ b → under t (put (cond b Equal Greater)) ≡ cond (nat_lt k t) 1 0 + under t (x ∷ xs)) [
    | true ↦ λ g. absurd (not_first k x xs g e)
    | false ↦ λ g. let later : under t (insert_key nat_cmp xs k) ≡ cond (nat_lt k t) 1 0 + under t xs = insert_under k t xs (absent_rest k x xs h g e) in omega (arith, later)
  ] refl
] refl
  where
    put : Ordering → List ℕ
    put o = match_ordering o (k ∷ x ∷ xs) (x ∷ xs) (x ∷ insert_key nat_cmp xs k)

pub insert_length : (k : ℕ) (xs : List ℕ) → under (suc k) xs ≡ under k xs → length (insert_key nat_cmp xs k) ≡ suc (length xs)
insert_length k [] e = refl
insert_length k (x ∷ xs) e = elim (nat_lt k x) as (λ b. nat_lt k x ≡ b → length (put (cond b Less (cond (k == x) Equal Greater))) ≡ suc (suc (length xs))) [
  | true ↦ λ h. refl
  | false ↦ λ h. elim (k == x) as (λ b. (k == x) ≡ b → length (put (cond b Equal Greater)) ≡ suc (suc (length xs))) [
    | true ↦ λ g. absurd (not_first k x xs g e)
    | false ↦ λ g. ap suc (insert_length k xs (absent_rest k x xs h g e))
  ] refl
] refl
  where
    put : Ordering → List ℕ
    put o = match_ordering o (k ∷ x ∷ xs) (x ∷ xs) (x ∷ insert_key nat_cmp xs k)

-- the first number is taken, where it is `at`
pub due_not : (at k : ℕ) (xs : List ℕ) → slice_get xs 0 ≡ Some k → All (IsLeBy nat_cmp k) xs → (k == at) ≡ false → under at xs ≡ 0 → under (at + 1) xs ≡ 0
due_not at k [] first all other none = refl
due_not at k (x ∷ xs) first all other none =
    let is : x ≡ k = same_Some x k first in
    let least : at ≤ x = from (nat_lt x at) x refl none in
    under_none (at + 1) (x ∷ xs) (λ i d h. above at k x (slice_index_or (x ∷ xs) i d) is least other (all i d h))
  where
    from : (b : Bool) (y : ℕ) → nat_lt y at ≡ b → cond b 1 0 + under at xs ≡ 0 → at ≤ y
    from true y h g = absurd (omega (arith, g))
    from false y h g = above_or y h
      where
        above_or : (y : ℕ) → nat_lt y at ≡ false → at ≤ y
        above_or y h = grind (arith, nat_tests)

    above : (at k x y : ℕ) → x ≡ k → at ≤ x → (k == at) ≡ false → is_gt (nat_cmp k y) ≡ false → at + 1 ≤ y
    above at k x y is least other le =
        let up : k ≤ y = upward k y le in let far : at < k = further at k (subst (λ (z : ℕ). at ≤ z) is least) other in omega (arith, up, far)
      where
        upward : (k y : ℕ) → is_gt (nat_cmp k y) ≡ false → k ≤ y
        upward k y le = grind (arith, nat_tests)

        further : (at k : ℕ) → at ≤ k → (k == at) ≡ false → at < k
        further at k h g = grind (arith, nat_tests)

-- the last number is taken
pub roomed_full : (m k : ℕ) (old new : List ℕ) → m ≤ length old → old ≡ new ++ k ∷ [] → All (λ q. IsLtBy nat_cmp q k) new → Roomed m old new
roomed_full m k old new full is below =
    let size : length old ≡ length new + 1 = ap length is ∙ ended new in
    record {
      size = rw (no_less (length old) m full) (omega (arith, size));
      least = λ t h. either (nat_lt k t) t refl h;
      most = λ t h. or (nat_lt k t) t refl h;
    }
  where
    ended : (new : List ℕ) → length (new ++ k ∷ []) ≡ length new + 1
    ended [] = refl
    ended (x ∷ xs) = let later : length (xs ++ k ∷ []) ≡ length xs + 1 = ended xs in omega (arith, later)

    counted : (t : ℕ) → under t old ≡ under t new + cond (nat_lt k t) 1 0
    counted t = ap (under t) is ∙ under_end t k new

    all : (t : ℕ) → nat_lt k t ≡ true → under t new ≡ length new
    all t h = under_all t new (λ i d g. lower (slice_index_or new i d) k t (below i d g) h)
      where
        lower : (q k t : ℕ) → nat_cmp q k ≡ Less → nat_lt k t ≡ true → q < t
        lower q k t h g = grind (arith, nat_tests)

    either : (b : Bool) (t : ℕ) → nat_lt k t ≡ b → under t old ≤ length new → under t new ≡ under t old
    either true t h g =
        let c : under t old ≡ under t new + 1 = counted t ∙ ap (λ (b : Bool). under t new + cond b 1 0) h in
        let a : under t new ≡ length new = all t h in absurd (omega (arith, c, a, g))
    either false t h g = let c : under t old ≡ under t new + 0 = counted t ∙ ap (λ (b : Bool). under t new + cond b 1 0) h in omega (arith, c)

    or : (b : Bool) (t : ℕ) → nat_lt k t ≡ b → length new < under t old → under t new ≡ length new
    or true t h g = all t h
    or false t h g =
        let c : under t old ≡ under t new + 0 = counted t ∙ ap (λ (b : Bool). under t new + cond b 1 0) h in
        let few : under t new ≤ length new = under_few t new in absurd (omega (arith, c, few, g))

pub roomed_free : (m : ℕ) (old : List ℕ) → length old < m → Roomed m old old
roomed_free m old free = record {
  size = rw (yes_less (length old) m free) refl;
  least = λ t h. refl;
  most = λ t h. let few : under t old ≤ length old = under_few t old in absurd (omega (arith, few, h));
}

-- what `pop_last` tells
pub roomed_popped : (m : ℕ) (popped : Option ℕ) (old new : List ℕ) → 0 < m → m ≤ length old → (IsSome popped ↔ (0 < length old)) → IfSome popped (λ k. old ≡ new ++ k ∷ []) → IfSome popped (λ k. All (λ q. IsLtBy nat_cmp q k) new) → Roomed m old new
roomed_popped m None old new some full is removal below = absurd (no (is.1 (omega (arith, some, full))))
  where
    no : IsSome {T = ℕ} None → ⊥
    no h = cc
roomed_popped m (Some k) old new some full is removal below = roomed_full m k old new full removal below

-- what `first` and `pop_first` tell
pub due_popped : (at first : ℕ) (popped : Option ℕ) (old new : List ℕ) → slice_get old 0 ≡ Some first → (first == at) ≡ true → (IsSome popped ↔ (0 < length old)) → IfSome popped (λ k. old ≡ k ∷ new) → old ≡ at ∷ new
due_popped at first None [] new is due some removal = absurd (none is)
  where
    none : ◌≡◌ {A = Option ℕ} None (Some first) → ⊥
    none e = cc
due_popped at first None (x ∷ xs) new is due some removal = absurd (no (some.1 (omega arith)))
  where
    no : IsSome {T = ℕ} None → ⊥
    no h = cc
due_popped at first (Some k) old new is due some removal =
    let e : k ≡ first = same_Some k first (sym (ap (λ (l : List ℕ). slice_get l 0) removal) ∙ is) in
    removal ∙ ap (λ (x : ℕ). x ∷ new) (e ∙ number first due)
  where
    number : (x : ℕ) → (x == at) ≡ true → x ≡ at
    number x h = grind (arith, nat_tests)

pub under_empty : (at : ℕ) (xs : List ℕ) → (IsSome {T = ℕ} None ↔ (0 < length xs)) → under at xs ≡ 0 → under (at + 1) xs ≡ 0
under_empty at [] some h = refl
under_empty at (x ∷ xs) some h = absurd (no (some.1 (omega arith)))
  where
    no : IsSome {T = ℕ} None → ⊥
    no h = cc
