-- What a page that is drawn leaves.
use Rattle.std.specs.Prelude.{◌≡◌, ℕ, zero, suc, ◌+◌, ◌-◌, ◌%◌, ◌<◌, ◌≤◌, ◌||◌, Bool, true, false, cond, nat_lt, List, [], ◌∷◌, ◌++◌, length, take, slice_get, slice_set, slice_index_or, swap_remove, if◌then◌else◌, Option, Some, None, refl}
use Rattle.std.specs.List.{list_any}
use Rattle.indexmap.specs.IndexSet.{insert_key}
use Rattle.std.proofs.Common.{arith, sym, ap, ◌∙◌}
use Rattle.rand_pcg.specs.Lcg.{Lcg}
use Rattle.rand_pcg.specs.Pcg.{pcg32}
use Rattle.clock_policy.specs.declared.key.Key.{Key}
use Rattle.page_policies.specs.Strings.{is_page, holds}
use Rattle.page_policies.specs.Ordered.{last_of, but_last}
use Rattle.page_policies.specs.Demand.{number, IsPlayed}
use Rattle.page_policies.proofs.NumberLaws.{less, most}
use Rattle.page_policies.proofs.PartLaws.{number_append, there_second, length_parts, length_but_last, last_split, hit_leaves, miss_leaves, Serves, served_plays}
use Rattle.page_policies.proofs.PlayedLaws.{here}
use Rattle.page_policies.proofs.CountLaws.{none_number}
use Rattle.page_policies.proofs.DemandLaws.{holds_none}
use Rattle.page_policies.specs.Random.{RandomState, left_at, place_of, drawn, room_drawn, joined, in_random, random, seeded, random_misses}

pub any_holds : (p : Key) (s : List Key) → list_any (is_page p) s ≡ holds p s
any_holds p [] = refl
any_holds p (q ∷ qs) = elim (is_page p q) as (λ b. (b || list_any (is_page p) qs) ≡ cond b true (holds p qs)) [ true ↦ refl | false ↦ any_holds p qs ]

pub inserted_new : (p : Key) (s : List Key) → holds p s ≡ false → insert_key is_page s p ≡ s ++ p ∷ []
inserted_new p s h = ap (λ (b : Bool). if b then s else s ++ p ∷ []) (any_holds p s ∙ h)

-- a page in the place of another

number_set : (test : Key → Bool) (s : List Key) (i : ℕ) (q y : Key) → slice_get s i ≡ Some q → number test (slice_set s i y) + cond (test q) 1 0 ≡ number test s + cond (test y) 1 0
number_set test [] i q y h = cc
number_set test (x ∷ xs) zero q y h = rw (some x q h) (omega arith)
  where
    some : (x q : Key) → (let o : Option Key = Some x in o) ≡ Some q → x ≡ q
    some x q h = cc
number_set test (x ∷ xs) (suc i) q y h = let later : number test (slice_set xs i y) + cond (test q) 1 0 ≡ number test xs + cond (test y) 1 0 = number_set test xs i q y h in omega (arith, later)

length_set : (s : List Key) (i : ℕ) (y : Key) → length (slice_set s i y) ≡ length s
length_set [] i y = refl
length_set (x ∷ xs) zero y = refl
length_set (x ∷ xs) (suc i) y = ap suc (length_set xs i y)

get_in : (s : List Key) (j : ℕ) (d : Key) → j < length s → slice_get s j ≡ Some (slice_index_or s j d)
get_in [] j d h = absurd (omega (arith, h))
get_in (x ∷ xs) zero d h = refl
get_in (x ∷ xs) (suc j) d h = get_in xs j d (omega (arith, h))

get_set : (s : List Key) (i j : ℕ) (d : Key) → j < length s → slice_get (slice_set s i (slice_index_or s j d)) j ≡ Some (slice_index_or s j d)
get_set [] i j d h = absurd (omega (arith, h))
get_set (x ∷ xs) zero zero d h = refl
get_set (x ∷ xs) zero (suc j) d h = get_in xs j d (omega (arith, h))
get_set (x ∷ xs) (suc i) zero d h = refl
get_set (x ∷ xs) (suc i) (suc j) d h = get_set xs i j d (omega (arith, h))

got_some : (s : List Key) (i : ℕ) (q : Key) → slice_get s i ≡ Some q → 1 ≤ length s
got_some [] i q h = cc
got_some (x ∷ xs) i q h = omega arith

-- the page in a place leaves

left_is : (s : List Key) (i : ℕ) (q : Key) → swap_remove s i q ≡ but_last (slice_set s i (slice_index_or s (length s - 1) q))
left_is s i q = ap (λ (n : ℕ). take (n - 1) (slice_set s i (slice_index_or s (length s - 1) q))) (sym (length_set s i (slice_index_or s (length s - 1) q)))

length_left : (s : List Key) (i : ℕ) (q : Key) → length (swap_remove s i q) ≡ length s - 1
length_left s i q =
    ap length (left_is s i q) ∙ length_but_last (slice_set s i (slice_index_or s (length s - 1) q)) ∙ ap (λ (n : ℕ). n - 1) (length_set s i (slice_index_or s (length s - 1) q))

number_left : (test : Key → Bool) (s : List Key) (i : ℕ) (q : Key) → slice_get s i ≡ Some q → number test (swap_remove s i q) ≤ number test s
number_left test s i q h =
    let some : 1 ≤ length s = got_some s i q h in
    let set : number test (slice_set s i (slice_index_or s (length s - 1) q)) + cond (test q) 1 0 ≡ number test s + cond (test (slice_index_or s (length s - 1) q)) 1 0 =
    number_set test s i q (slice_index_or s (length s - 1) q) h in
    let last : last_of (slice_set s i (slice_index_or s (length s - 1) q)) ≡ Some (slice_index_or s (length s - 1) q) =
    ap (λ (n : ℕ). slice_get (slice_set s i (slice_index_or s (length s - 1) q)) (n - 1)) (length_set s i (slice_index_or s (length s - 1) q)) ∙ get_set s i (length s - 1) q (omega (arith, some)) in
    let split : number test (but_last (slice_set s i (slice_index_or s (length s - 1) q))) + cond (test (slice_index_or s (length s - 1) q)) 1 0 ≡ number test (slice_set s i (slice_index_or s (length s - 1) q)) =
    last_split test (slice_set s i (slice_index_or s (length s - 1) q)) (slice_index_or s (length s - 1) q) last in
    let is : number test (swap_remove s i q) ≡ number test (but_last (slice_set s i (slice_index_or s (length s - 1) q))) = ap (number test) (left_is s i q) in omega (arith, set, split, is)

-- What is not there is not there after. So a page that comes in is new.

pub out_left : (p : Key) (o : Option Key) (i : ℕ) (s : List Key) → slice_get s i ≡ o → holds p s ≡ false → holds p (left_at o i s) ≡ false
out_left p None i s is h = h
out_left p (Some q) i s is h =
    let none : number (is_page p) s ≡ 0 = none_number p s h in
    let fewer : number (is_page p) (swap_remove s i q) ≤ number (is_page p) s = number_left (is_page p) s i q is in
    holds_none p (swap_remove s i q) (omega (arith, none, fewer))

pub out_room : (m : ℕ) (p : Key) (s : RandomState) → holds p s.pages ≡ false → holds p (room_drawn m s).pages ≡ false
out_room m p s h = elim (nat_lt (length s.pages) m) as (λ b. holds p (cond b s (drawn s)).pages ≡ false) [
  | true ↦ h
  | false ↦ out_left p (slice_get s.pages (place_of (pcg32 s.generator).0 (length s.pages))) (place_of (pcg32 s.generator).0 (length s.pages)) s.pages refl h
]

-- a way to serve a string

modulo : (a b : ℕ) → 1 ≤ b → a % b < b
modulo a b h = grind arith

some_at : (s : List Key) (i : ℕ) → i < length s → slice_get s i ≡ None → ⊥
some_at [] i h is = omega (arith, h)
some_at (x ∷ xs) zero h is = cc
some_at (x ∷ xs) (suc i) h is = some_at xs i (omega (arith, h)) is

record Room (m : ℕ) (s t : RandomState) : Type 0 where
  few : length t.pages < m
  fewer : (test : Key → Bool) → number test t.pages ≤ number test s.pages

leaves_one : (m : ℕ) (o : Option Key) (i : ℕ) (s : RandomState) (g : Lcg) → 1 ≤ length s.pages → length s.pages ≤ m → i < length s.pages → slice_get s.pages i ≡ o → Room m s (record { pages = left_at o i s.pages; generator = g })
leaves_one m None i s g some few within is = absurd (some_at s.pages i within is)
leaves_one m (Some q) i s g some few within is = record {
  few = let e : length (swap_remove s.pages i q) ≡ length s.pages - 1 = length_left s.pages i q in omega (arith, e, some, few);
  fewer = λ test. number_left test s.pages i q is;
}

room_is : (m : ℕ) (s : RandomState) → 1 ≤ m → length s.pages ≤ m → Room m s (room_drawn m s)
room_is m s some few = elim (nat_lt (length s.pages) m) as (λ b. nat_lt (length s.pages) m ≡ b → Room m s (cond b s (drawn s))) [
  | true ↦ λ h. record { few = less (length s.pages) m h; fewer = λ test. omega arith }
  | false ↦ λ h.
      let full : m ≤ length s.pages = most (length s.pages) m h in
      let one : 1 ≤ length s.pages = omega (arith, full, some) in
      leaves_one m (slice_get s.pages (place_of (pcg32 s.generator).0 (length s.pages))) (place_of (pcg32 s.generator).0 (length s.pages)) s (pcg32 s.generator).1 one few
      (modulo (pcg32 s.generator).0 (length s.pages) one) refl
] refl

abbrev frames_of : RandomState → List Key
frames_of s = s.pages

last_in : (p : Key) (s : List Key) → holds p (s ++ p ∷ []) ≡ true
last_in p s = there_second p s (p ∷ []) (here p [])

serves : (m : ℕ) → 1 ≤ m → (p : Key) (s : RandomState) → length s.pages ≤ m → Serves m frames_of (λ s. length s.pages ≤ m) in_random p s (random m p s)
serves m some p s few = elim (holds p s.pages) as (λ b. holds p s.pages ≡ b → Serves m frames_of (λ s. length s.pages ≤ m) in_random p s (cond b s (joined p (room_drawn m s)))) [
  | true ↦ λ h. record { found = refl; leaves = hit_leaves m p s.pages s.pages (sym h) h few (λ test. omega arith); lawful_after = few }
  | false ↦ λ h.
      let r : Room m s (room_drawn m s) = room_is m s some few in
      let left : length (room_drawn m s).pages < m = r.few in
      let e : length ((room_drawn m s).pages ++ p ∷ []) ≡ length (room_drawn m s).pages + 1 = length_parts (room_drawn m s).pages (p ∷ []) in record {
        found = refl;
        leaves = miss_leaves m p s.pages ((room_drawn m s).pages ++ p ∷ []) (sym h) (last_in p (room_drawn m s).pages) (omega (arith, e, left)) (λ test.
            let n : number test ((room_drawn m s).pages ++ p ∷ []) ≡ number test (room_drawn m s).pages + (cond (test p) 1 0 + 0) = number_append test (room_drawn m s).pages (p ∷ []) in
            let f : number test (room_drawn m s).pages ≤ number test s.pages = r.fewer test in omega (arith, n, f));
        lawful_after = omega (arith, e, left);
      }
] refl

pub random_played : (seed : ℕ) → IsPlayed (random_misses seed)
unfolding random_misses
random_played seed frames string some = served_plays frames frames_of (λ s. length s.pages ≤ frames) in_random (random frames) (serves frames some) (record { pages = []; generator = seeded seed }) string (omega arith)
