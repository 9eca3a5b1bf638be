-- Overlapping segments: in any order of the segments, and at neighbours where they come by address.
use Rattle.std.proofs.Common.{◌≡◌, ℕ, zero, suc, ◌+◌, ◌-◌, ◌*◌, ◌<◌, ◌≤◌, max, min, Bool, true, false, ◌||◌, cond, ltb, List, [], ◌∷◌, length, get_or, arith, refl, sym, ap, ◌∙◌, subst, inl, inr}
use Rattle.std.specs.List.{list_any, sum_by, All, AllPairs, AllAdjacentBelow}
use Rattle.std.specs.List.Sorted.{IsPermutation, IsNonDecreasingBy}
use Rattle.std.proofs.lemmas.Bool.Decides.{nat_tests, leb_tells}
use Rattle.std.proofs.lemmas.List.Sums.{sum_by-cons}
use Rattle.std.proofs.lemmas.List.Sorted.{sum_by-IsPermutation}
use Rattle.std.proofs.lemmas.List.Folds.{list_any_none, list_any_at}
use Rattle.elf_image.specs.declared.program_header.ProgramHeader.{ProgramHeader}
use Rattle.elf_image.specs.ElfFiles.{end_of, share_address, overlap}

-- 1 where two segments share an address, else 0
abbrev pub shared : ProgramHeader → ProgramHeader → ℕ
shared one other = cond (share_address one other) 1 0

-- in how many pairs of segments they share an address
abbrev pub pairs : List ProgramHeader → ℕ
pairs [] = 0
pairs (one ∷ rest) = sum_by (shared one) rest + pairs rest

abbrev pub with_itself : List ProgramHeader → ℕ
with_itself xs = sum_by (λ one. shared one one) xs

abbrev pub both_ways : List ProgramHeader → ℕ
both_ways xs = sum_by (λ one. sum_by (shared one) xs) xs

sum_by-both : {X : Type 0} (f g : X → ℕ) (xs : List X) → sum_by (λ x. f x + g x) xs ≡ sum_by f xs + sum_by g xs
sum_by-both f g [] = refl
sum_by-both {X} f g (x ∷ xs) =
    let rest = sum_by-both f g xs in
    omega (arith, sum_by-cons (λ x. f x + g x) x xs, sum_by-cons f x xs, sum_by-cons g x xs)

-- the same function at each element, the same sum
sum_by-like : {X : Type 0} (f g : X → ℕ) → ((x : X) → f x ≡ g x) → (xs : List X) → sum_by f xs ≡ sum_by g xs
sum_by-like f g same xs = λ i. sum_by (λ x. same x i) xs

shared_back : (one other : ProgramHeader) → shared one other ≡ shared other one
shared_back one other =
    let starts : max one.address other.address ≡ max other.address one.address = omega arith in
    let ends : min (end_of one) (end_of other) ≡ min (end_of other) (end_of one) = omega arith in
    λ i. cond (ltb (starts i) (ends i)) 1 0

counted_twice : (xs : List ProgramHeader) → both_ways xs ≡ with_itself xs + 2 * pairs xs
counted_twice [] = refl
counted_twice (a ∷ xs) =
    let rest = counted_twice xs in
    let first = sum_by-cons (λ one. sum_by (shared one) (a ∷ xs)) a xs in
    let row = sum_by-cons (shared a) a xs in
    let column = sum_by-like (λ one. sum_by (shared one) (a ∷ xs)) (λ one. shared a one + sum_by (shared one) xs) (λ one. sum_by-cons (shared one) a xs ∙ ap (λ n. n + sum_by (shared one) xs) (shared_back one a)) xs in
    let split = sum_by-both (shared a) (λ one. sum_by (shared one) xs) xs in
    let itself = sum_by-cons (λ one. shared one one) a xs in
    omega (arith, rest, first, row, column, split, itself)

any_counted : (p : ProgramHeader → Bool) (xs : List ProgramHeader) → list_any p xs ≡ ltb 0 (sum_by (λ x. cond (p x) 1 0) xs)
any_counted p [] = refl
any_counted p (x ∷ xs) = step (p x) (any_counted p xs) ∙ ap (λ n. ltb 0 n) (sym (sum_by-cons (λ x. cond (p x) 1 0) x xs))
  where
    step : (b : Bool) → list_any p xs ≡ ltb 0 (sum_by (λ x. cond (p x) 1 0) xs) → (b || list_any p xs) ≡ ltb 0 (cond b 1 0 + sum_by (λ x. cond (p x) 1 0) xs)
    step true e = grind (arith, nat_tests)
    step false e = e ∙ ap (λ n. ltb 0 n) (omega arith)

pub overlap_counted : (xs : List ProgramHeader) → overlap xs ≡ ltb 0 (pairs xs)
overlap_counted [] = refl
overlap_counted (one ∷ rest) = (λ i. any_counted (share_address one) rest i || overlap_counted rest i) ∙ either (sum_by (shared one) rest) (pairs rest)
  where
    either : (a b : ℕ) → (ltb 0 a || ltb 0 b) ≡ ltb 0 (a + b)
    either a b = grind (arith, nat_tests)

-- segments in another order overlap as before
pub overlap_moved : (xs ys : List ProgramHeader) → IsPermutation xs ys → overlap ys ≡ overlap xs
overlap_moved xs ys moved =
    let inner = sum_by-like (λ one. sum_by (shared one) ys) (λ one. sum_by (shared one) xs) (λ one. sum_by-IsPermutation (shared one) xs ys moved) ys in
    let outer = sum_by-IsPermutation (λ one. sum_by (shared one) xs) xs ys moved in
    let itself = sum_by-IsPermutation (λ one. shared one one) xs ys moved in
    let same : pairs ys ≡ pairs xs = omega (arith, inner, outer, itself, counted_twice xs, counted_twice ys) in
    overlap_counted ys ∙ ap (λ n. ltb 0 n) same ∙ sym (overlap_counted xs)

-- where each segment ends before all later ones begin, none overlap
pub none_overlap : (xs : List ProgramHeader) → AllPairs (λ one other. end_of one ≤ other.address) xs → overlap xs ≡ false
none_overlap [] apart = refl
none_overlap (one ∷ rest) apart = λ i. first i || none_overlap rest (λ j k d below within. apart (suc j) (suc k) d (omega arith) (omega arith)) i
  where
    beyond : (a b : ℕ) (c d : ℕ) → b ≤ c → ltb (max a c) (min b d) ≡ false
    beyond a b c d h = grind (arith, nat_tests)

    first : list_any (share_address one) rest ≡ false
    first = list_any_none (share_address one) rest (λ k d within. beyond one.address (end_of one) (get_or rest k d).address (end_of (get_or rest k d)) (apart 0 (suc k) d (omega arith) (omega arith)))

-- two segments that share an address
pub two_overlap : (xs : List ProgramHeader) (i j : ℕ) (d : ProgramHeader) → i < j → j < length xs → share_address (get_or xs i d) (get_or xs j d) ≡ true → overlap xs ≡ true
two_overlap [] i j d below within share = absurd (omega arith)
two_overlap (one ∷ rest) i zero d below within share = absurd (omega arith)
two_overlap (one ∷ rest) zero (suc j) d below within share =
    ap (λ b. b || overlap rest) (list_any_at (share_address one) rest j d (omega arith) share)
two_overlap (one ∷ rest) (suc i) (suc j) d below within share =
    ap (λ b. list_any (share_address one) rest || b) (two_overlap rest i j d (omega arith) (omega arith) share) ∙ or_true (list_any (share_address one) rest)
  where
    or_true : (b : Bool) → (b || true) ≡ true
    or_true true = refl
    or_true false = refl

-- what each neighbour keeps, all later ones keep
pub all_apart : (xs : List ProgramHeader) → All (λ one. 0 < one.memory_size) xs → AllAdjacentBelow (λ one other. end_of one ≤ other.address) xs (length xs) → AllPairs (λ one other. end_of one ≤ other.address) xs
all_apart xs full near i zero d below within = absurd (omega arith)
all_apart xs full near i (suc j) d below within =
    elim (leb_tells (suc i) j) [
      | inl before ↦
          let earlier : end_of (get_or xs i d) ≤ (get_or xs j d).address = all_apart xs full near i j d before.1 (omega arith) in
          let here : end_of (get_or xs j d) ≤ (get_or xs (suc j) d).address = subst (λ n. end_of (get_or xs j d) ≤ (get_or xs n d).address) (omega arith) (near j d (omega arith)) in
          omega arith
      | inr last ↦
          let same : i ≡ j = omega arith in
          let here : end_of (get_or xs j d) ≤ (get_or xs (suc j) d).address = subst (λ n. end_of (get_or xs j d) ≤ (get_or xs n d).address) (omega arith) (near j d (omega arith)) in
          subst (λ n. end_of (get_or xs n d) ≤ (get_or xs (suc j) d).address) (sym same) here
    ]

-- neighbours of which the second begins before the first ends
pub near_overlap : (xs : List ProgramHeader) (i : ℕ) (d : ProgramHeader) → IsNonDecreasingBy (λ one. one.address) xs → All (λ one. 0 < one.memory_size) xs → 0 < i → i < length xs → (get_or xs i d).address < end_of (get_or xs (i - 1) d) → overlap xs ≡ true
near_overlap xs i d sorted full some within early =
    two_overlap xs (i - 1) i d (omega arith) within
    (meets (get_or xs (i - 1) d) (get_or xs i d) (sorted (i - 1) i d (omega arith) within) (full i d within) (full (i - 1) d (omega arith)) early)
  where
    meets : (one other : ProgramHeader) → one.address ≤ other.address → 0 < other.memory_size → 0 < one.memory_size → other.address < end_of one → share_address one other ≡ true
    meets one other rise some first h = grind (arith, nat_tests)
