-- The optimum with every number of frames at once, a reference: proofs.
use Rattle.std.specs.Prelude.{◌≡◌, ℕ, zero, suc, ◌+◌, ◌-◌, ◌<◌, ◌≤◌, ◌==◌, Bool, true, false, cond, nat_lt, List, [], ◌∷◌, take, length, refl}
use Rattle.std.proofs.Common.{arith, sym, ap, ◌∙◌}
use Rattle.clock_policy.specs.declared.key.Key.{Key}
use Rattle.page_policies.specs.Strings.{holds}
use Rattle.page_policies.specs.Optimal.{next_use, room_for}
use Rattle.page_policies.specs.Demand.{one}
use Rattle.page_policies.proofs.NumberLaws.{yes_less}
use Rattle.whole_strings.specs.NextPlaces.{under, place, Roomed}
use Rattle.whole_strings.proofs.PlaceStepLaws.{Stands, Left, Steps, hit_left, miss_left, place_near, place_past, past_more, there_now, none_yet}
use Rattle.whole_strings.specs.OptimumStack.{place_depth, carried_down, restacked}
use Rattle.whole_strings.proofs.CarriedLaws.{same_number, roomed_down, found_down, length_found_down, not_there}

-- places are told apart by their number and by how many are below each bound
stands_alike : (m at n : ℕ) (k l : List ℕ) (rest s : List Key) → length l ≡ length k → ((t : ℕ) → under t l ≡ under t k) → Stands m at n k rest s → Stands m at n l rest s
stands_alike m at n k l rest s size alike h = record {
  once = h.once;
  few = h.few;
  size = size ∙ h.size;
  near_by = λ t x e few. alike x ∙ h.near_by t x e few;
  past = alike (n + at) ∙ h.past ∙ sym size;
}

put_first : (m at n next : ℕ) (p : Key) (ps : List Key) (keys : List ℕ) (r : List Key) → n ≡ at + suc (length ps) → next ≡ place n at (next_use p ps) → Left m at n p ps keys r → Stands m (at + 1) n (next ∷ keys) ps r
put_first m at n next p ps keys r is to left = rw to (record {
  once = left.once;
  few = left.few;
  size = left.size;
  near_by = λ t x e few. ap (λ (b : Bool). one b + under x keys) (place_near n at (next_use p ps) (length ps) t x is e few) ∙ left.near_by t x e few;
  past = at_end (n + (at + 1)) (omega arith);
})
  where
    at_end : (x : ℕ) → x ≡ suc (n + at) → one (nat_lt (place n at (next_use p ps)) x) + under x keys ≡ suc (length keys)
    at_end x e = rw e (let first : one (nat_lt (place n at (next_use p ps)) (suc (n + at))) ≡ 1 = ap one (place_past n at (next_use p ps) (length ps) is) in
        let others : under (suc (n + at)) keys ≡ length keys = past_more n at keys left.past in omega (arith, first, others))

-- what is left of m frames once the page of the reference is out, or that whose next use is farthest
abbrev others : ℕ → List ℕ → List ℕ
others at [] = []
others at (y ∷ ys) = cond (y == at) ys (carried_down at y ys)

first_others : (at next : ℕ) (s : List ℕ) → restacked at next s ≡ next ∷ others at s
first_others at next [] = refl
first_others at next (y ∷ ys) = refl

others_found : (j at t : ℕ) (s : List ℕ) → place_depth at s < suc j → place_depth at s < length s → under t (take (suc j) s) ≡ one (nat_lt at t) + under t (take j (others at s))
others_found j at t [] h g = absurd (omega (arith, g))
others_found j at t (y ∷ ys) h g = elim (y == at) as (λ b. (y == at) ≡ b → cond b 0 (suc (place_depth at ys)) < suc j → cond b 0 (suc (place_depth at ys)) < suc (length ys) → one (nat_lt y t) + under t (take j ys) ≡ one (nat_lt at t) + under t (take j (cond b ys (carried_down at y ys)))) [
  | true ↦ λ is h g. ap (λ (k : ℕ). one (nat_lt k t) + under t (take j ys)) (same_number y at is)
  | false ↦ λ is h g. found_down j at y t ys (omega (arith, h)) (omega (arith, g))
] refl h g

length_others_found : (j at : ℕ) (s : List ℕ) → place_depth at s < length s → length (take (suc j) s) ≡ suc (length (take j (others at s)))
length_others_found j at [] g = absurd (omega (arith, g))
length_others_found j at (y ∷ ys) g = elim (y == at) as (λ b. cond b 0 (suc (place_depth at ys)) < suc (length ys) → suc (length (take j ys)) ≡ suc (length (take j (cond b ys (carried_down at y ys))))) [
  | true ↦ λ g. refl
  | false ↦ λ g. ap suc (sym (length_found_down j at y ys (omega (arith, g))))
] g

others_roomed : (j at : ℕ) (s : List ℕ) → length (take (suc j) s) ≤ place_depth at s → Roomed (suc j) (take (suc j) s) (take j (others at s))
others_roomed j at [] h = rw (nothing_left j) (record { size = refl_size j; least = λ t h. refl; most = λ t h. absurd (omega (arith, h)) })
  where
    nothing_left : (j : ℕ) → take j (let none : List ℕ = [] in none) ≡ []
    nothing_left zero = refl
    nothing_left (suc j) = refl

    refl_size : (j : ℕ) → 0 ≡ cond (nat_lt 0 (suc j)) 0 (0 - 1)
    refl_size j = elim (nat_lt 0 (suc j)) as (λ b. 0 ≡ cond b 0 (0 - 1)) [ true ↦ refl | false ↦ refl ]
others_roomed j at (y ∷ ys) h = elim (y == at) as (λ b. suc (length (take j ys)) ≤ cond b 0 (suc (place_depth at ys)) → Roomed (suc j) (y ∷ take j ys) (take j (cond b ys (carried_down at y ys)))) [
  | true ↦ λ g. absurd (omega (arith, g))
  | false ↦ λ g. roomed_down j at y ys (omega (arith, g))
] h

-- a hit with j + 1 frames
pub hit_there : (j at n : ℕ) (p : Key) (ps : List Key) (stack : List ℕ) (s : List Key) → place_depth at stack < suc j → place_depth at stack < length stack → Stands (suc j) at n (take (suc j) stack) (p ∷ ps) s → holds p s ≡ true
hit_there j at n p ps stack s h g stands =
    let counted : under (at + 1) (take (suc j) stack) ≡ one (nat_lt at (at + 1)) + under (at + 1) (take j (others at stack)) = others_found j at (at + 1) stack h g in
    let before : one (nat_lt at (at + 1)) ≡ 1 = ap one (yes_less at (at + 1) (omega arith)) in
    let now : under (at + 1) (take (suc j) stack) ≡ one (holds p s) = there_now (suc j) at n p ps (take (suc j) stack) s stands in
    found (holds p s) refl (omega (arith, counted, before, now))
  where
    found : (b : Bool) → holds p s ≡ b → 1 ≤ one (holds p s) → holds p s ≡ true
    found true e g = e
    found false e g = let z : one (holds p s) ≡ 0 = ap one e in absurd (omega (arith, z, g))

pub hit_stands : (j at n next : ℕ) (p : Key) (ps : List Key) (stack : List ℕ) (s : List Key) → n ≡ at + suc (length ps) → next ≡ place n at (next_use p ps) → place_depth at stack < suc j → place_depth at stack < length stack
    → Stands (suc j) at n (take (suc j) stack) (p ∷ ps) s → Stands (suc j) (at + 1) n (take (suc j) (restacked at next stack)) ps s
hit_stands j at n next p ps stack s is to h g stands =
    let there : holds p s ≡ true = hit_there j at n p ps stack s h g stands in
    let apart : Stands (suc j) at n (at ∷ take j (others at stack)) (p ∷ ps) s = stands_alike (suc j) at n (take (suc j) stack) (at ∷ take j (others at stack)) (p ∷ ps) s (sym (length_others_found j at stack g)) (λ t. sym (others_found j at t stack h g)) stands in
    rw (first_others at next stack) (put_first (suc j) at n next p ps (take j (others at stack)) s is to (hit_left (suc j) at n p ps (at ∷ take j (others at stack)) (take j (others at stack)) s is apart refl there))

pub step_hit : (j at n next : ℕ) (p : Key) (ps : List Key) (stack : List ℕ) (s : List Key) → n ≡ at + suc (length ps) → next ≡ place n at (next_use p ps) → place_depth at stack < suc j → place_depth at stack < length stack
    → Stands (suc j) at n (take (suc j) stack) (p ∷ ps) s → Steps (suc j) at n p ps (take (suc j) (restacked at next stack)) s true
step_hit j at n next p ps stack s is to h g stands = record {
  pages = s;
  stands = hit_stands j at n next p ps stack s is to h g stands;
  whole = rw (hit_there j at n p ps stack s h g stands) (omega arith);
}

-- a miss with them
pub miss_gone : (j at n : ℕ) (p : Key) (ps : List Key) (stack : List ℕ) (s : List Key) → length (take (suc j) stack) ≤ place_depth at stack → Stands (suc j) at n (take (suc j) stack) (p ∷ ps) s → holds p s ≡ false
miss_gone j at n p ps stack s h stands =
    let none : under at (take (suc j) stack) ≡ 0 = none_yet (suc j) at n p ps (take (suc j) stack) s stands in
    let alike : under (at + 1) (take (suc j) stack) ≡ under at (take (suc j) stack) = not_there (suc j) at stack h in
    let now : under (at + 1) (take (suc j) stack) ≡ one (holds p s) = there_now (suc j) at n p ps (take (suc j) stack) s stands in
    lost (holds p s) refl (omega (arith, none, alike, now))
  where
    lost : (b : Bool) → holds p s ≡ b → one (holds p s) ≡ 0 → holds p s ≡ false
    lost true e g = let z : one (holds p s) ≡ 1 = ap one e in absurd (omega (arith, z, g))
    lost false e g = e

pub miss_stands : (j at n next : ℕ) (p : Key) (ps : List Key) (stack : List ℕ) (s : List Key) → n ≡ at + suc (length ps) → next ≡ place n at (next_use p ps) → length (take (suc j) stack) ≤ place_depth at stack
    → Stands (suc j) at n (take (suc j) stack) (p ∷ ps) s → Stands (suc j) (at + 1) n (take (suc j) (restacked at next stack)) ps (p ∷ room_for (suc j) ps s)
miss_stands j at n next p ps stack s is to h stands = rw (first_others at next stack) (put_first (suc j) at n next p ps (take j (others at stack)) (p ∷ room_for (suc j) ps s) is to
    (miss_left (suc j) at n p ps (take (suc j) stack) (take j (others at stack)) s (omega arith) is stands (others_roomed j at stack h) (miss_gone j at n p ps stack s h stands)))

pub step_miss : (j at n next : ℕ) (p : Key) (ps : List Key) (stack : List ℕ) (s : List Key) → n ≡ at + suc (length ps) → next ≡ place n at (next_use p ps) → length (take (suc j) stack) ≤ place_depth at stack
    → Stands (suc j) at n (take (suc j) stack) (p ∷ ps) s → Steps (suc j) at n p ps (take (suc j) (restacked at next stack)) s false
step_miss j at n next p ps stack s is to h stands = record {
  pages = p ∷ room_for (suc j) ps s;
  stands = miss_stands j at n next p ps stack s is to h stands;
  whole = rw (miss_gone j at n p ps stack s h stands) refl;
}
