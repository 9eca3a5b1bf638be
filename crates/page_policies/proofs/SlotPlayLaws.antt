-- CLOCK is a way to serve a string: a proof.
use Rattle.std.specs.Prelude.{◌≡◌, ℕ, zero, suc, ◌+◌, ◌<◌, ◌≤◌, ◌==◌, ◌&&◌, Bool, true, false, cond, nat_lt, List, [], ◌∷◌, ◌++◌, length, drop, refl}
use Rattle.std.proofs.Common.{arith, sym, ap, subst, ◌∙◌}
use Rattle.std.proofs.lemmas.Bool.Decides.{nat_tests}
use Rattle.clock_policy.specs.declared.key.Key.{Key}
use Rattle.page_policies.specs.Strings.{is_page, holds, misses}
use Rattle.page_policies.specs.SecondChance.{Slot, in_slots, touched, front_used, turned, one_gone, room_made, second_chance, clock_misses}
use Rattle.page_policies.proofs.SlotLaws.{length-room_made}
use Rattle.page_policies.specs.Demand.{number, MayLeave, Plays, IsPlayed}
use Rattle.page_policies.proofs.PlayedLaws.{here, stays}

-- the pages of the frames, from the hand on
abbrev pages_of : List Slot → List Key
pages_of [] = []
pages_of (x ∷ xs) = x.page ∷ pages_of xs

held_is : (p : Key) (s : List Slot) → in_slots p s ≡ holds p (pages_of s)
held_is p [] = refl
held_is p (x ∷ xs) = elim (is_page x.page p) as (λ b. is_page x.page p ≡ b → cond b true (in_slots p xs) ≡ cond (is_page p x.page) true (holds p (pages_of xs))) [
  | true ↦ λ is. sym (ap (λ (b : Bool). cond b true (holds p (pages_of xs))) (turn_round x.page p ∙ is))
  | false ↦ λ is. held_is p xs ∙ sym (ap (λ (b : Bool). cond b true (holds p (pages_of xs))) (turn_round x.page p ∙ is))
] refl
  where
    turn_round : (q p : Key) → is_page p q ≡ is_page q p
    turn_round q p = ap (λ (b : Bool). b && (p.vpn == q.vpn)) (each p.process q.process) ∙ ap (λ (b : Bool). (q.process == p.process) && b) (each p.vpn q.vpn)
      where
        each : (a b : ℕ) → (a == b) ≡ (b == a)
        each a b = grind (arith, nat_tests)

pages_touched : (p : Key) (s : List Slot) → pages_of (touched p s) ≡ pages_of s
pages_touched p [] = refl
pages_touched p (x ∷ xs) = elim (is_page x.page p) as (λ b. pages_of (cond b (record { page = x.page; used = true } ∷ xs) (x ∷ touched p xs)) ≡ x.page ∷ pages_of xs) [
  | true ↦ refl
  | false ↦ ap (λ (l : List Key). x.page ∷ l) (pages_touched p xs)
]

length_pages : (s : List Slot) → length (pages_of s) ≡ length s
length_pages [] = refl
length_pages (x ∷ xs) = ap suc (length_pages xs)

number_end : (test : Key → Bool) (s : List Slot) (y : Slot) → number test (pages_of (s ++ y ∷ [])) ≡ number test (pages_of s) + cond (test y.page) 1 0
number_end test [] y = omega arith
number_end test (x ∷ xs) y = let later : number test (pages_of (xs ++ y ∷ [])) ≡ number test (pages_of xs) + cond (test y.page) 1 0 = number_end test xs y in omega (arith, later)

number_turned : (test : Key → Bool) (s : List Slot) → number test (pages_of (turned s)) ≡ number test (pages_of s)
number_turned test [] = refl
number_turned test (x ∷ xs) =
    let e : number test (pages_of (xs ++ record { page = x.page; used = false } ∷ [])) ≡ number test (pages_of xs) + cond (test x.page) 1 0 = number_end test xs (record { page = x.page; used = false }) in omega (arith, e)

number_dropped : (test : Key → Bool) (s : List Slot) → number test (pages_of (drop 1 s)) ≤ number test (pages_of s)
number_dropped test [] = omega arith
number_dropped test (x ∷ xs) = omega arith

number_gone : (test : Key → Bool) (n : ℕ) (s : List Slot) → number test (pages_of (one_gone n s)) ≤ number test (pages_of s)
number_gone test zero s = number_dropped test s
number_gone test (suc n) s = elim (front_used s) as (λ b. number test (pages_of (cond b (one_gone n (turned s)) (drop 1 s))) ≤ number test (pages_of s)) [
  | true ↦ let later : number test (pages_of (one_gone n (turned s))) ≤ number test (pages_of (turned s)) = number_gone test n (turned s) in let e : number test (pages_of (turned s)) ≡ number test (pages_of s) = number_turned test s in omega (arith, later, e)
  | false ↦ number_dropped test s
]

number_made : (test : Key → Bool) (m : ℕ) (s : List Slot) → number test (pages_of (room_made m s)) ≤ number test (pages_of s)
number_made test m s = elim (nat_lt (length s) m) as (λ b. number test (pages_of (cond b s (one_gone (length s) s))) ≤ number test (pages_of s)) [
  | true ↦ omega arith
  | false ↦ number_gone test (length s) s
]

-- a page that comes in last is there
last_there : (p : Key) (s : List Slot) (y : Slot) → y.page ≡ p → holds p (pages_of (s ++ y ∷ [])) ≡ true
last_there p [] y is = subst (λ (k : Key). holds p (k ∷ []) ≡ true) (sym is) (here p [])
last_there p (x ∷ xs) y is = elim (is_page p x.page) as (λ b. cond b true (holds p (pages_of (xs ++ y ∷ []))) ≡ true) [
  | true ↦ refl
  | false ↦ last_there p xs y is
]

length_end : (s : List Slot) (y : Slot) → length (s ++ y ∷ []) ≡ length s + 1
length_end [] y = omega arith
length_end (x ∷ xs) y = let later : length (xs ++ y ∷ []) ≡ length xs + 1 = length_end xs y in omega (arith, later)

comes_in : (m : ℕ) (p : Key) (s r : List Slot) (y : Slot) → y.page ≡ p → holds p (pages_of s) ≡ false → length r < m → ((test : Key → Bool) → number test (pages_of r) ≤ number test (pages_of s)) → MayLeave m p (pages_of s) (pages_of (r ++ y ∷ []))
comes_in m p s r y is out few fewer = record {
  there = last_there p r y is;
  few = let e : length (pages_of (r ++ y ∷ [])) ≡ length r + 1 = length_pages (r ++ y ∷ []) ∙ length_end r y in omega (arith, e, few);
  from = λ test. rw out (
      let e : number test (pages_of (r ++ y ∷ [])) ≡ number test (pages_of r) + cond (test p) 1 0 = number_end test r y ∙ ap (λ (k : Key). number test (pages_of r) + cond (test k) 1 0) is in
      let f : number test (pages_of r) ≤ number test (pages_of s) = fewer test in omega (arith, e, f));
}

clock_left : (m : ℕ) (p : Key) (s : List Slot) → 1 ≤ m → length s ≤ m → MayLeave m p (pages_of s) (pages_of (second_chance m p s))
clock_left m p s some few = elim (in_slots p s) as (λ b. in_slots p s ≡ b → MayLeave m p (pages_of s) (pages_of (cond b (touched p s) (room_made m s ++ record { page = p; used = true } ∷ [])))) [
  | true ↦ λ h. subst (MayLeave m p (pages_of s)) (sym (pages_touched p s)) (stays m p (pages_of s) (sym (held_is p s) ∙ h) (let e : length (pages_of s) ≡ length s = length_pages s in omega (arith, e, few)))
  | false ↦ λ h. comes_in m p s (room_made m s) (record { page = p; used = true }) refl (sym (held_is p s) ∙ h) (length-room_made m s some few) (λ test. number_made test m s)
] refl

clock_plays : (m : ℕ) → 1 ≤ m → (s : List Slot) (string : List Key) → length s ≤ m → Plays m (pages_of s) string (misses in_slots (second_chance m) s string)
clock_plays m some s [] few = refl
clock_plays m some s (p ∷ ps) few =
    let left : MayLeave m p (pages_of s) (pages_of (second_chance m p s)) = clock_left m p s some few in
    let left_few : length (pages_of (second_chance m p s)) ≤ m = left.few in
    let size : length (pages_of (second_chance m p s)) ≡ length (second_chance m p s) = length_pages (second_chance m p s) in (
      pages_of (second_chance m p s),
      (
        misses in_slots (second_chance m) (second_chance m p s) ps,
        (left, (ap (λ (b : Bool). cond b 0 1 + misses in_slots (second_chance m) (second_chance m p s) ps) (held_is p s), clock_plays m some (second_chance m p s) ps (omega (arith, left_few, size)))),
      ),
    )

pub clock_played : IsPlayed clock_misses
unfolding clock_misses
clock_played frames string some = clock_plays frames some [] string (omega arith)
