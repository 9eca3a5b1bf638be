-- Points that are put in one after another.
use Rattle.std.proofs.Common.{◌≡◌, ℕ, zero, suc, ◌+◌, ◌-◌, ◌<◌, List, [], ◌∷◌, ◌++◌, length, take, drop, map, replicate, slice_index_or, slice_set, Option, Some, None, unwrap_or, is_none, refl, sym, ap, ◌∙◌, arith, append_assoc, length-take}
use Rattle.std.specs.List.{position_from}
use Rattle.std.proofs.lemmas.List.{take_more, map-append}
use Rattle.debug_core.specs.Debugging.{lowest_free}
use Rattle.debug_core.specs.declared.point.Point.{Point}
use Rattle.guest_history.specs.Filling.{filled}

-- the first so many of 32 points are there, and no others
abbrev pub filling : ℕ → List (Option Point) → List (Option Point)
filling n points = map filled (take n points) ++ replicate (32 - n) None

free_behind : (from k : ℕ) (points : List (Option Point)) → position_from is_none from (map filled points ++ replicate (suc k) None) ≡ Some (from + length points)
free_behind from k [] = let none : from ≡ from + 0 = omega arith in ap Some none
free_behind from k (None ∷ points) = let more : (from + 1) + length points ≡ from + suc (length points) = omega arith in free_behind (from + 1) k points ∙ ap Some more
free_behind from k (Some point ∷ points) = let more : (from + 1) + length points ≡ from + suc (length points) = omega arith in free_behind (from + 1) k points ∙ ap Some more

set_behind : (k : ℕ) (point : Option Point) (points : List (Option Point)) → slice_set (map filled points ++ replicate (suc k) None) (length points) (filled point) ≡ map filled points ++ filled point ∷ replicate k None
set_behind k point [] = refl
set_behind k point (first ∷ points) = ap (λ (l : List (Option Point)). filled first ∷ l) (set_behind k point points)

some_same : (a b : ℕ) → ◌≡◌ {A = Option ℕ} (Some a) (Some b) → a ≡ b
some_same a b e = ap (λ (o : Option ℕ). unwrap_or o a) e

pub fill_more : (points old new : List (Option Point)) (n number : ℕ) → n < 32 → length points ≡ 32 → old ≡ filling n points → lowest_free old ≡ Some number
    → new ≡ slice_set old number (filled (slice_index_or points n None)) → new ≡ filling (n + 1) points
fill_more points old new n number within long e free made =
    let point = slice_index_or points n None in
    let k = 31 - n in
    let left : 32 - n ≡ suc k = omega (arith, within) in
    let size : length (take n points) ≡ n = let cut = length-take n points in omega (arith, cut, within, long) in
    let old_is : old ≡ map filled (take n points) ++ replicate (suc k) None = e ∙ ap (λ j. map filled (take n points) ++ replicate j None) left in
    let place : number ≡ n =
    some_same number n (sym free ∙ ap lowest_free old_is ∙ free_behind 0 k (take n points) ∙ ap Some (let zero_more : 0 + length (take n points) ≡ n = omega (arith, size) in zero_more)) in
    let first : map filled (take (n + 1) points) ≡ map filled (take n points) ++ filled point ∷ [] =
    ap (map filled) (take_more points n None (omega (arith, within, long))) ∙ map-append filled (take n points) (point ∷ []) in
    let rest : 32 - (n + 1) ≡ k = omega (arith, within) in
    made ∙ ap (λ (l : List (Option Point)). slice_set l number (filled point)) old_is
    ∙ ap (λ j. slice_set (map filled (take n points) ++ replicate (suc k) None) j (filled point)) (place ∙ sym size)
    ∙ set_behind k point (take n points)
    ∙ sym (append_assoc (map filled (take n points)) (filled point ∷ []) (replicate k None))
    ∙ ap (λ (l : List (Option Point)). l ++ replicate k None) (sym first)
    ∙ ap (λ j. map filled (take (n + 1) points) ++ replicate j None) (sym rest)

-- the first so many points are as they are to be, the others as they were filled
abbrev pub clearing : ℕ → List (Option Point) → List (Option Point)
clearing n points = take n points ++ drop n (map filled points)

pub clear_more : (points old new : List (Option Point)) (n : ℕ) → n < length points → old ≡ clearing n points → new ≡ slice_set old n (slice_index_or points n None) → new ≡ clearing (n + 1) points
clear_more points old new n within e made =
    let more : suc n ≡ n + 1 = omega arith in
    made ∙ ap (λ (l : List (Option Point)). slice_set l n (slice_index_or points n None)) e ∙ next points n within ∙ ap (λ j. clearing j points) more
  where
    next : (points : List (Option Point)) (n : ℕ) → n < length points → slice_set (clearing n points) n (slice_index_or points n None) ≡ clearing (suc n) points
    next [] n within = absurd (omega (arith, within))
    next (point ∷ points) zero within = refl
    next (point ∷ points) (suc n) within = ap (λ (l : List (Option Point)). point ∷ l) (next points n (omega (arith, within)))
