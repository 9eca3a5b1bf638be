-- One place is carried down the stack: proofs.
use Rattle.std.specs.Prelude.{◌≡◌, ℕ, zero, suc, ◌+◌, ◌-◌, ◌<◌, ◌≤◌, ◌==◌, Bool, true, false, cond, nat_lt, List, [], ◌∷◌, take, length, refl}
use Rattle.std.proofs.Common.{arith, sym, ap, ◌∙◌}
use Rattle.std.proofs.lemmas.Bool.Decides.{nat_tests}
use Rattle.page_policies.specs.Demand.{one}
use Rattle.page_policies.proofs.NumberLaws.{less, most, yes_less, no_less, next_less}
use Rattle.whole_strings.specs.NextPlaces.{under, Roomed}
use Rattle.whole_strings.proofs.NextPlaceLaws.{under_few}
use Rattle.whole_strings.specs.OptimumStack.{nearer, farther, place_depth, carried_down, restacked}

pub same_number : (a b : ℕ) → (a == b) ≡ true → a ≡ b
same_number a b h = grind (arith, nat_tests)

-- the nearer and the farther are the two
both : (a b t : ℕ) → one (nat_lt (nearer a b) t) + one (nat_lt (farther a b) t) ≡ one (nat_lt a t) + one (nat_lt b t)
both a b t = swap (nat_lt b a) (one (nat_lt a t)) (one (nat_lt b t)) refl refl
  where
    swap : (c : Bool) (x y : ℕ) → one (nat_lt a t) ≡ x → one (nat_lt b t) ≡ y → one (nat_lt (cond c b a) t) + one (nat_lt (cond c a b) t) ≡ x + y
    swap true x y h g = omega (arith, h, g)
    swap false x y h g = omega (arith, h, g)

in_order : (a b : ℕ) → nearer a b ≤ farther a b
in_order a b = ordered (nat_lt b a) refl
  where
    ordered : (c : Bool) → nat_lt b a ≡ c → cond c b a ≤ cond c a b
    ordered true h = let e : b < a = less b a h in omega (arith, e)
    ordered false h = most b a h

-- where a farther one is out of so many and one more, so is it out of them and one nearer, and one frame more
roomed_more : (m c y n x : ℕ) (old new : List ℕ) → n ≤ x → ((t : ℕ) → one (nat_lt n t) + one (nat_lt x t) ≡ one (nat_lt c t) + one (nat_lt y t)) → Roomed m (x ∷ old) new → Roomed (suc m) (c ∷ y ∷ old) (n ∷ new)
roomed_more m c y n x old new order split r =
    let size : length new ≡ cond (nat_lt (suc (length old)) m) (suc (length old)) (suc (length old) - 1) = r.size in
    let room : length old ≤ length new = enough (nat_lt (suc (length old)) m) (length old) (length new) size in
    record {
      size = grown (nat_lt (suc (length old)) m) (nat_lt (suc (suc (length old))) (suc m)) (sym (next_less (suc (length old)) m)) (length old) (length new) size;
      least = λ t h. least_on (nat_lt n t) t refl (size_room t room) h;
      most = λ t h. most_on (nat_lt n t) t refl (size_room t room) h;
    }
  where
    enough : (b : Bool) (k l : ℕ) → l ≡ cond b (suc k) (suc k - 1) → k ≤ l
    enough true k l h = omega (arith, h)
    enough false k l h = omega (arith, h)

    grown : (b d : Bool) → b ≡ d → (k l : ℕ) → l ≡ cond b (suc k) (suc k - 1) → suc l ≡ cond d (suc (suc k)) (suc (suc k) - 1)
    grown true true e k l h = omega (arith, h)
    grown false false e k l h = omega (arith, h)
    grown true false e k l h = cc
    grown false true e k l h = cc

    size_room : (t : ℕ) → length old ≤ length new → under t old ≤ length new
    size_room t h = let few : under t old ≤ length old = under_few t old in omega (arith, few, h)

    far : (t : ℕ) → nat_lt n t ≡ false → nat_lt x t ≡ false
    far t h = let e : t ≤ n = most n t h in no_less x t (omega (arith, e, order))

    least_on : (b : Bool) (t : ℕ) → nat_lt n t ≡ b → under t old ≤ length new → one (nat_lt c t) + (one (nat_lt y t) + under t old) ≤ suc (length new) → one (nat_lt n t) + under t new ≡ one (nat_lt c t) + (one (nat_lt y t) + under t old)
    least_on true t is small h =
        let sum : one (nat_lt n t) + one (nat_lt x t) ≡ one (nat_lt c t) + one (nat_lt y t) = split t in
        let near_one : one (nat_lt n t) ≡ 1 = ap one is in
        let e : under t new ≡ one (nat_lt x t) + under t old = r.least t (omega (arith, sum, near_one, h)) in
        omega (arith, sum, e)
    least_on false t is small h =
        let sum : one (nat_lt n t) + one (nat_lt x t) ≡ one (nat_lt c t) + one (nat_lt y t) = split t in
        let near_one : one (nat_lt n t) ≡ 0 = ap one is in
        let far_one : one (nat_lt x t) ≡ 0 = ap one (far t is) in
        let e : under t new ≡ one (nat_lt x t) + under t old = r.least t (omega (arith, far_one, small)) in
        omega (arith, sum, e)

    most_on : (b : Bool) (t : ℕ) → nat_lt n t ≡ b → under t old ≤ length new → suc (length new) < one (nat_lt c t) + (one (nat_lt y t) + under t old) → one (nat_lt n t) + under t new ≡ suc (length new)
    most_on true t is small h =
        let sum : one (nat_lt n t) + one (nat_lt x t) ≡ one (nat_lt c t) + one (nat_lt y t) = split t in
        let near_one : one (nat_lt n t) ≡ 1 = ap one is in
        let e : under t new ≡ length new = r.most t (omega (arith, sum, near_one, h)) in
        omega (arith, near_one, e)
    most_on false t is small h =
        let sum : one (nat_lt n t) + one (nat_lt x t) ≡ one (nat_lt c t) + one (nat_lt y t) = split t in
        let near_one : one (nat_lt n t) ≡ 0 = ap one is in
        let far_one : one (nat_lt x t) ≡ 0 = ap one (far t is) in
        absurd (omega (arith, sum, near_one, far_one, small, h))

-- with one frame and one place that place is out
roomed_one : (c : ℕ) → Roomed 1 (c ∷ []) []
roomed_one c = record { size = refl; least = λ t h. sym (none t h); most = λ t h. refl }
  where
    none : (t : ℕ) → one (nat_lt c t) + 0 ≤ 0 → one (nat_lt c t) + 0 ≡ 0
    none t h = omega (arith, h)

roomed_alone : (m c : ℕ) → Roomed (suc (suc m)) (c ∷ []) (c ∷ [])
roomed_alone m c = record {
  size = rw (yes_less 1 (suc (suc m)) (omega arith)) refl;
  least = λ t h. refl;
  most = λ t h. absurd (many t h);
}
  where
    many : (t : ℕ) → 1 < one (nat_lt c t) + 0 → ⊥
    many t h = let few : under t (c ∷ []) ≤ 1 = under_few t (c ∷ []) in omega (arith, few, h)

-- Of the places of m frames and one that is carried to them, where `at` is none of them, the farthest is carried on.
pub roomed_down : (j at c : ℕ) (ys : List ℕ) → length (take j ys) ≤ place_depth at ys → Roomed (suc j) (c ∷ take j ys) (take j (carried_down at c ys))
roomed_down zero at c ys h = roomed_one c
roomed_down (suc j) at c [] h = rw (nothing_left j) (roomed_alone j c)
  where
    nothing_left : (j : ℕ) → take j (let none : List ℕ = [] in none) ≡ []
    nothing_left zero = refl
    nothing_left (suc j) = refl
roomed_down (suc j) at c (y ∷ ys) h = elim (y == at) as (λ b. suc (length (take j ys)) ≤ cond b 0 (suc (place_depth at ys)) → Roomed (suc (suc j)) (c ∷ y ∷ take j ys) (take (suc j) (cond b (c ∷ ys) (nearer c y ∷ carried_down at (farther c y) ys)))) [
  | true ↦ λ g. absurd (omega (arith, g))
  | false ↦ λ g. roomed_more (suc j) c y (nearer c y) (farther c y) (take j ys) (take j (carried_down at (farther c y) ys)) (in_order c y) (both c y) (roomed_down j at (farther c y) ys (omega (arith, g)))
] h

-- Where `at` is one of the places of m frames, it alone is gone.
pub found_down : (j at c t : ℕ) (ys : List ℕ) → place_depth at ys < j → place_depth at ys < length ys → one (nat_lt c t) + under t (take j ys) ≡ one (nat_lt at t) + under t (take j (carried_down at c ys))
found_down zero at c t ys h g = absurd (omega (arith, h))
found_down (suc j) at c t [] h g = absurd (omega (arith, g))
found_down (suc j) at c t (y ∷ ys) h g = elim (y == at) as (λ b. (y == at) ≡ b → cond b 0 (suc (place_depth at ys)) < suc j → cond b 0 (suc (place_depth at ys)) < suc (length ys)
    → one (nat_lt c t) + (one (nat_lt y t) + under t (take j ys)) ≡ one (nat_lt at t) + under t (take (suc j) (cond b (c ∷ ys) (nearer c y ∷ carried_down at (farther c y) ys)))) [
      | true ↦ λ is h g. let e : one (nat_lt y t) ≡ one (nat_lt at t) = ap (λ (k : ℕ). one (nat_lt k t)) (same_number y at is) in omega (arith, e)
      | false ↦ λ is h g.
          let later : one (nat_lt (farther c y) t) + under t (take j ys) ≡ one (nat_lt at t) + under t (take j (carried_down at (farther c y) ys)) = found_down j at (farther c y) t ys (omega (arith, h)) (omega (arith, g)) in
          let split : one (nat_lt (nearer c y) t) + one (nat_lt (farther c y) t) ≡ one (nat_lt c t) + one (nat_lt y t) = both c y t in
          omega (arith, later, split)
    ] refl h g

pub length_found_down : (j at c : ℕ) (ys : List ℕ) → place_depth at ys < length ys → length (take j (carried_down at c ys)) ≡ length (take j ys)
length_found_down zero at c ys g = refl
length_found_down (suc j) at c [] g = absurd (omega (arith, g))
length_found_down (suc j) at c (y ∷ ys) g = elim (y == at) as (λ b. cond b 0 (suc (place_depth at ys)) < suc (length ys) → length (take (suc j) (cond b (c ∷ ys) (nearer c y ∷ carried_down at (farther c y) ys))) ≡ suc (length (take j ys))) [
  | true ↦ λ g. refl
  | false ↦ λ g. ap suc (length_found_down j at (farther c y) ys (omega (arith, g)))
] g

pub length_down : (at c : ℕ) (ys : List ℕ) → length (carried_down at c ys) ≡ cond (nat_lt (place_depth at ys) (length ys)) (length ys) (suc (length ys))
length_down at c [] = refl
length_down at c (y ∷ ys) = elim (y == at) as (λ b. length (cond b (c ∷ ys) (nearer c y ∷ carried_down at (farther c y) ys)) ≡ cond (nat_lt (cond b 0 (suc (place_depth at ys))) (suc (length ys))) (suc (length ys)) (suc (suc (length ys)))) [
  | true ↦ sym (ap (λ (b : Bool). let k : ℕ = cond b (suc (length ys)) (suc (suc (length ys))) in k) (yes_less 0 (suc (length ys)) (omega arith)))
  | false ↦ ap suc (length_down at (farther c y) ys) ∙ grown (nat_lt (place_depth at ys) (length ys)) (nat_lt (suc (place_depth at ys)) (suc (length ys))) (sym (next_less (place_depth at ys) (length ys)))
]
  where
    grown : (b d : Bool) → b ≡ d → suc (cond b (length ys) (suc (length ys))) ≡ cond d (suc (length ys)) (suc (suc (length ys)))
    grown true true e = refl
    grown false false e = refl
    grown true false e = cc
    grown false true e = cc

pub length_restacked : (at next : ℕ) (s : List ℕ) → length (restacked at next s) ≡ cond (nat_lt (place_depth at s) (length s)) (length s) (suc (length s))
length_restacked at next [] = refl
length_restacked at next (y ∷ ys) = elim (y == at) as (λ b. suc (length (cond b ys (carried_down at y ys))) ≡ cond (nat_lt (cond b 0 (suc (place_depth at ys))) (suc (length ys))) (suc (length ys)) (suc (suc (length ys)))) [
  | true ↦ sym (ap (λ (b : Bool). let k : ℕ = cond b (suc (length ys)) (suc (suc (length ys))) in k) (yes_less 0 (suc (length ys)) (omega arith)))
  | false ↦ ap suc (length_down at y ys) ∙ grown (nat_lt (place_depth at ys) (length ys)) (nat_lt (suc (place_depth at ys)) (suc (length ys))) (sym (next_less (place_depth at ys) (length ys)))
]
  where
    grown : (b d : Bool) → b ≡ d → suc (cond b (length ys) (suc (length ys))) ≡ cond d (suc (length ys)) (suc (suc (length ys)))
    grown true true e = refl
    grown false false e = refl
    grown true false e = cc
    grown false true e = cc

-- a place that is not among the first m is counted nowhere there
pub not_there : (m at : ℕ) (s : List ℕ) → length (take m s) ≤ place_depth at s → under (at + 1) (take m s) ≡ under at (take m s)
not_there zero at s h = refl
not_there (suc m) at [] h = refl
not_there (suc m) at (y ∷ ys) h = elim (y == at) as (λ b. (y == at) ≡ b → suc (length (take m ys)) ≤ cond b 0 (suc (place_depth at ys)) → one (nat_lt y (at + 1)) + under (at + 1) (take m ys) ≡ one (nat_lt y at) + under at (take m ys)) [
  | true ↦ λ is g. absurd (omega (arith, g))
  | false ↦ λ is g.
      let later : under (at + 1) (take m ys) ≡ under at (take m ys) = not_there m at ys (omega (arith, g)) in
      let e : one (nat_lt y (at + 1)) ≡ one (nat_lt y at) = ap one (alike y at is) in omega (arith, later, e)
] refl h
  where
    alike : (y at : ℕ) → (y == at) ≡ false → nat_lt y (at + 1) ≡ nat_lt y at
    alike y at h = grind (arith, nat_tests)
