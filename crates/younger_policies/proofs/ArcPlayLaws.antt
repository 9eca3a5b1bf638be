-- ARC is a way to serve a string: a proof.
use Rattle.std.specs.Prelude.{◌≡◌, ℕ, zero, suc, ◌+◌, ◌-◌, ◌*◌, ◌/◌, ◌<◌, ◌≤◌, ◌==◌, ◌⊎◌, Bool, true, false, cond, nat_lt, nat_le, min, List, [], ◌∷◌, ◌++◌, length, take, Option, Some, None, refl}
use Rattle.std.proofs.Common.{arith, sym, ap, inl, inr, ◌∙◌}
use Rattle.std.proofs.lemmas.Bool.Decides.{nat_tests}
use Rattle.clock_policy.specs.declared.key.Key.{Key}
use Rattle.page_policies.specs.Strings.{is_page, holds, without}
use Rattle.page_policies.specs.Ordered.{to_front, last_of, but_last}
use Rattle.page_policies.proofs.QueueLaws.{absent}
use Rattle.page_policies.specs.Demand.{number, IsPlayed}
use Rattle.page_policies.proofs.NumberLaws.{less, most}
use Rattle.page_policies.proofs.PartLaws.{number_append, holds_append, there_first, there_second, length_parts, front_there, number_front, number_moved, number_out, length_out, length_fewer, length_front, length_moved, length_but_last, number_but_last, hit_leaves, miss_leaves, Serves, served_plays}
use Rattle.younger_policies.specs.Arc.{ArcState, step_of, grown, shrunk, with_last, first_out, second_out, takes_first, replaced, hit, from_first, from_second, fetched, without_b1, without_b2, without_t1, case_a, case_b, all_pages, new_page, missed, in_arc, arc, arc_misses}
use Rattle.younger_policies.proofs.ArcLaws.{some_held}

-- the pages in frames
abbrev pages : ArcState → List Key
pages s = s.t2 ++ s.t1

abbrev room : ArcState → ℕ
room s = length s.t1 + length s.t2

abbrev count : (Key → Bool) → ArcState → ℕ
count test s = number test s.t2 + number test s.t1

found : (p : Key) (s : ArcState) → in_arc p s ≡ holds p (pages s)
found p s = sym (holds_append p s.t2 s.t1)

size : (s : ArcState) → length (pages s) ≡ room s
size s = let e : length (s.t2 ++ s.t1) ≡ length s.t2 + length s.t1 = length_parts s.t2 s.t1 in omega (arith, e)

counted : (test : Key → Bool) (s : ArcState) → number test (pages s) ≡ count test s
counted test s = number_append test s.t2 s.t1

-- What is so after each reference: L1 has c pages at most, and where a frame is free no page that left is remembered.
record Lawful (c : ℕ) (s : ArcState) : Type 0 where
  few : room s ≤ c
  first : length s.t1 + length s.b1 ≤ c
  target : s.target ≤ c
  full : (length s.b1 + length s.b2 ≡ 0) ⊎ (room s ≡ c)

-- a page that is not there does not come with what leaves

out_taken : (n : ℕ) (p : Key) (s : List Key) → holds p s ≡ false → holds p (take n s) ≡ false
out_taken zero p s h = refl
out_taken (suc n) p [] h = refl
out_taken (suc n) p (q ∷ qs) h = elim (is_page p q) as (λ b. cond b true (holds p qs) ≡ false → cond b true (holds p (take n qs)) ≡ false) [ true ↦ λ g. cc | false ↦ λ g. out_taken n p qs g ] h

length_new : (p : Key) (s : List Key) → holds p s ≡ false → length (to_front p s) ≡ length s + 1
length_new p s h = ap (λ (l : List Key). suc (length l)) (absent p s h) ∙ omega arith

length_with : (o : Option Key) (s : List Key) → length (with_last o s) ≤ length s + 1
length_with None s = omega arith
length_with (Some q) s = length_front q s

-- REPLACE where each frame has its page, and T2 has one if T1 has all that its target allows
record Replaced (s t : ArcState) : Type 0 where
  room_left : room t + 1 ≡ room s
  first : length t.t1 + length t.b1 ≤ length s.t1 + length s.b1
  target : t.target ≡ s.target
  fewer : (test : Key → Bool) → count test t ≤ count test s
  out_first : (p : Key) → holds p s.t1 ≡ false → holds p t.t1 ≡ false
  out_second : (p : Key) → holds p s.t2 ≡ false → holds p t.t2 ≡ false

takes_some : (b : Bool) (s : ArcState) → takes_first b s ≡ true → 1 ≤ length s.t1
takes_some b s h = elim (nat_lt 0 (length s.t1)) as (λ t. nat_lt 0 (length s.t1) ≡ t → cond t (cond (nat_lt s.target (length s.t1)) true (cond b (length s.t1 == s.target) false)) false ≡ true → 1 ≤ length s.t1) [
  | true ↦ λ is g. less 0 (length s.t1) is
  | false ↦ λ is g. cc
] refl h

takes_none : (b : Bool) (s : ArcState) → takes_first b s ≡ false → length s.t1 ≤ s.target
takes_none b s h = elim (nat_lt 0 (length s.t1)) as (λ t. nat_lt 0 (length s.t1) ≡ t → cond t (cond (nat_lt s.target (length s.t1)) true (cond b (length s.t1 == s.target) false)) false ≡ false → length s.t1 ≤ s.target) [
  | true ↦ λ is g. elim (nat_lt s.target (length s.t1)) as (λ t. nat_lt s.target (length s.t1) ≡ t → cond t true (cond b (length s.t1 == s.target) false) ≡ false → length s.t1 ≤ s.target) [
    | true ↦ λ k j. cc
    | false ↦ λ k j. most s.target (length s.t1) k
  ] refl g
  | false ↦ λ is g. let e : length s.t1 ≤ 0 = most 0 (length s.t1) is in omega (arith, e)
] refl h

replaced_is : (b : Bool) (c : ℕ) (s : ArcState) → room s ≡ c → 1 ≤ c → (length s.t1 < c) ⊎ (s.target < c) → Replaced s (replaced b s)
replaced_is b c s all some left = elim (takes_first b s) as (λ t. takes_first b s ≡ t → Replaced s (cond t (first_out s) (second_out s))) [
  | true ↦ λ h.
      let one : 1 ≤ length s.t1 = takes_some b s h in
      let e : length (but_last s.t1) ≡ length s.t1 - 1 = length_but_last s.t1 in
      let w : length (with_last (last_of s.t1) s.b1) ≤ length s.b1 + 1 = length_with (last_of s.t1) s.b1 in record {
        room_left = omega (arith, one, e);
        first = omega (arith, one, e, w);
        target = refl;
        fewer = λ test. let f : number test (but_last s.t1) ≤ number test s.t1 = number_but_last test s.t1 in omega (arith, f);
        out_first = λ p g. out_taken (length s.t1 - 1) p s.t1 g;
        out_second = λ p g. g;
      }
  | false ↦ λ h.
      let within : length s.t1 ≤ s.target = takes_none b s h in
      let one : 1 ≤ length s.t2 = some_second within left in
      let e : length (but_last s.t2) ≡ length s.t2 - 1 = length_but_last s.t2 in record {
        room_left = omega (arith, one, e);
        first = omega arith;
        target = refl;
        fewer = λ test. let f : number test (but_last s.t2) ≤ number test s.t2 = number_but_last test s.t2 in omega (arith, f);
        out_first = λ p g. g;
        out_second = λ p g. out_taken (length s.t2 - 1) p s.t2 g;
      }
] refl
  where
    some_second : length s.t1 ≤ s.target → (length s.t1 < c) ⊎ (s.target < c) → 1 ≤ length s.t2
    some_second within (inl h) = omega (arith, all, h)
    some_second within (inr h) = omega (arith, all, within, h)

-- what a miss leaves
record Fetches (c : ℕ) (p : Key) (s t : ArcState) : Type 0 where
  lawful : Lawful c t
  there : holds p (pages t) ≡ true
  from : (test : Key → Bool) → count test t ≤ count test s + cond (test p) 1 0

step_some : (hit other : ℕ) → 1 ≤ hit → 1 ≤ step_of hit other
step_some hit other some = elim (nat_le other hit) as (λ b. nat_le other hit ≡ b → 1 ≤ cond b 1 (other / hit)) [
  | true ↦ λ h. omega arith
  | false ↦ λ h. quotient hit other some (above other hit h)
] refl
  where
    above : (a b : ℕ) → nat_le a b ≡ false → b < a
    above a b h = grind (arith, nat_tests)

    quotient : (a b : ℕ) → 1 ≤ a → a < b → 1 ≤ b / a
    quotient a b some h = grind arith

-- the lists after REPLACE, with the page at the front of T2
second_gains : (c : ℕ) (p : Key) (s r t : ArcState) → holds p s.t2 ≡ false → room s ≡ c → 1 ≤ c → length s.t1 + length s.b1 ≤ c → Replaced s r → r.target ≤ c
    → t.t1 ≡ r.t1 → t.t2 ≡ to_front p r.t2 → length t.b1 ≤ length r.b1 → t.target ≡ r.target → Fetches c p s t
second_gains c p s r t out all some first left target t1_is t2_is b1_is target_is =
    let l1 : length t.t1 ≡ length r.t1 = ap length t1_is in
    let l2 : length t.t2 ≡ length r.t2 + 1 = ap length t2_is ∙ length_new p r.t2 (left.out_second p out) in
    let room_left : room r + 1 ≡ room s = left.room_left in
    let fewer_first : length r.t1 + length r.b1 ≤ length s.t1 + length s.b1 = left.first in record {
      lawful = record {
        few = omega (arith, l1, l2, room_left, all);
        first = omega (arith, l1, fewer_first, first, b1_is);
        target = omega (arith, target, target_is);
        full = inr (omega (arith, l1, l2, room_left, all));
      };
      there = there_first p t.t2 t.t1 (ap (holds p) t2_is ∙ front_there p r.t2);
      from = λ test.
          let n1 : number test t.t1 ≡ number test r.t1 = ap (number test) t1_is in
          let n2 : number test t.t2 ≡ number test (to_front p r.t2) = ap (number test) t2_is in
          let f : number test (to_front p r.t2) ≤ number test r.t2 + cond (test p) 1 0 = number_front test p r.t2 in
          let g : count test r ≤ count test s = left.fewer test in omega (arith, n1, n2, f, g);
    }

full_when : (c : ℕ) (s : ArcState) → Lawful c s → 1 ≤ length s.b1 + length s.b2 → room s ≡ c
full_when c s lawful some = either lawful.full
  where
    either : (length s.b1 + length s.b2 ≡ 0) ⊎ (room s ≡ c) → room s ≡ c
    either (inl h) = absurd (omega (arith, h, some))
    either (inr h) = h

-- Case II
second_case : (c : ℕ) (p : Key) (s : ArcState) → 1 ≤ c → Lawful c s → holds p s.t2 ≡ false → holds p s.b1 ≡ true → Fetches c p s (from_first p (replaced false (grown c s)))
second_case c p s some lawful out there =
    let one : 1 ≤ length s.b1 = some_held p s.b1 there in
    let all : room s ≡ c = full_when c s lawful (omega (arith, one)) in
    let first : length s.t1 + length s.b1 ≤ c = lawful.first in
    let left : Replaced (grown c s) (replaced false (grown c s)) = replaced_is false c (grown c s) all some (inl (omega (arith, one, first))) in
    let target_is : (replaced false (grown c s)).target ≡ (grown c s).target = left.target in
    let within : (grown c s).target ≤ c = at_most (s.target + step_of (length s.b1) (length s.b2)) c in
    let f : Fetches c p (grown c s) (from_first p (replaced false (grown c s))) =
    second_gains c p (grown c s) (replaced false (grown c s)) (from_first p (replaced false (grown c s))) out all some first left (omega (arith, target_is, within))
    refl refl (length_fewer p (replaced false (grown c s)).b1) refl in
    record { lawful = f.lawful; there = f.there; from = f.from }
  where
    at_most : (a c : ℕ) → min a c ≤ c
    at_most a c = grind arith

-- Case III
third_case : (c : ℕ) (p : Key) (s : ArcState) → 1 ≤ c → Lawful c s → holds p s.t2 ≡ false → holds p s.b2 ≡ true → Fetches c p s (from_second p (replaced true (shrunk s)))
third_case c p s some lawful out there =
    let one : 1 ≤ length s.b2 = some_held p s.b2 there in
    let all : room s ≡ c = full_when c s lawful (omega (arith, one)) in
    let step : 1 ≤ step_of (length s.b2) (length s.b1) = step_some (length s.b2) (length s.b1) one in
    let before : s.target ≤ c = lawful.target in
    let less_target : (shrunk s).target < c = minus s.target (step_of (length s.b2) (length s.b1)) c step before some in
    let left : Replaced (shrunk s) (replaced true (shrunk s)) = replaced_is true c (shrunk s) all some (inr less_target) in
    let target_is : (replaced true (shrunk s)).target ≡ (shrunk s).target = left.target in
    let f : Fetches c p (shrunk s) (from_second p (replaced true (shrunk s))) =
    second_gains c p (shrunk s) (replaced true (shrunk s)) (from_second p (replaced true (shrunk s))) out all some lawful.first left (omega (arith, target_is, less_target))
    refl refl (omega arith) refl in
    record { lawful = f.lawful; there = f.there; from = f.from }
  where
    minus : (a b c : ℕ) → 1 ≤ b → a ≤ c → 1 ≤ c → a - b < c
    minus a b c h g some = omega (arith, h, g, some)

-- the page at the front of T1, where there is room for it
first_gains : (c : ℕ) (p : Key) (s r : ArcState) → holds p r.t1 ≡ false → room r < c → length r.t1 + length r.b1 < c → r.target ≤ c → (length r.b1 + length r.b2 ≡ 0) ⊎ (room r + 1 ≡ c)
    → ((test : Key → Bool) → count test r ≤ count test s) → Fetches c p s (fetched p r)
first_gains c p s r out few first target full fewer =
    let l : length (to_front p r.t1) ≡ length r.t1 + 1 = length_new p r.t1 out in record {
      lawful = record {
        few = omega (arith, l, few);
        first = omega (arith, l, first);
        target = target;
        full = either l full;
      };
      there = there_second p r.t2 (to_front p r.t1) (front_there p r.t1);
      from = λ test.
          let f : number test (to_front p r.t1) ≤ number test r.t1 + cond (test p) 1 0 = number_front test p r.t1 in
          let g : count test r ≤ count test s = fewer test in omega (arith, f, g);
    }
  where
    either : length (to_front p r.t1) ≡ length r.t1 + 1 → (length r.b1 + length r.b2 ≡ 0) ⊎ (room r + 1 ≡ c) → (length r.b1 + length r.b2 ≡ 0) ⊎ (length (to_front p r.t1) + length r.t2 ≡ c)
    either l (inl h) = inl h
    either l (inr h) = inr (omega (arith, l, h))

-- Case IV, after REPLACE from a state t with the pages of s in frames
after_replace : (c : ℕ) (p : Key) (s t : ArcState) → 1 ≤ c → t.t1 ≡ s.t1 → t.t2 ≡ s.t2 → t.target ≤ c → holds p s.t1 ≡ false → room s ≡ c → length t.t1 < c → length t.t1 + length t.b1 < c → Fetches c p s (fetched p (replaced false t))
after_replace c p s t some t1_is t2_is target out all less_first first =
    let l1 : length t.t1 ≡ length s.t1 = ap length t1_is in
    let l2 : length t.t2 ≡ length s.t2 = ap length t2_is in
    let left : Replaced t (replaced false t) = replaced_is false c t (omega (arith, l1, l2, all)) some (inl less_first) in
    let room_left : room (replaced false t) + 1 ≡ room t = left.room_left in
    let fewer_first : length (replaced false t).t1 + length (replaced false t).b1 ≤ length t.t1 + length t.b1 = left.first in
    let target_is : (replaced false t).target ≡ t.target = left.target in
    first_gains c p s (replaced false t) (left.out_first p (ap (holds p) t1_is ∙ out)) (omega (arith, room_left, l1, l2, all)) (omega (arith, fewer_first, first)) (omega (arith, target_is, target))
    (inr (omega (arith, room_left, l1, l2, all)))
    (λ test.
    let n1 : number test t.t1 ≡ number test s.t1 = ap (number test) t1_is in
    let n2 : number test t.t2 ≡ number test s.t2 = ap (number test) t2_is in
    let g : count test (replaced false t) ≤ count test t = left.fewer test in omega (arith, n1, n2, g))

fourth_a : (c : ℕ) (p : Key) (s : ArcState) → 1 ≤ c → Lawful c s → holds p s.t1 ≡ false → length s.t1 + length s.b1 ≡ c → Fetches c p s (fetched p (case_a c s))
fourth_a c p s some lawful out exact = elim (nat_lt (length s.t1) c) as (λ b. nat_lt (length s.t1) c ≡ b → Fetches c p s (fetched p (cond b (replaced false (without_b1 s)) (without_t1 s)))) [
  | true ↦ λ h.
      let fewer : length s.t1 < c = less (length s.t1) c h in
      let e : length (but_last s.b1) ≡ length s.b1 - 1 = length_but_last s.b1 in
      let all : room s ≡ c = full_when c s lawful (omega (arith, fewer, exact)) in
      after_replace c p s (without_b1 s) some refl refl lawful.target out all fewer (omega (arith, e, exact, fewer))
  | false ↦ λ h.
      let whole : c ≤ length s.t1 = most (length s.t1) c h in
      let few : room s ≤ c = lawful.few in
      let e : length (but_last s.t1) ≡ length s.t1 - 1 = length_but_last s.t1 in
      first_gains c p s (without_t1 s) (out_taken (length s.t1 - 1) p s.t1 out) (omega (arith, e, few, whole, some)) (omega (arith, e, exact, some, whole)) lawful.target (inr (omega (arith, e, few, whole, some)))
      (λ test. let f : number test (but_last s.t1) ≤ number test s.t1 = number_but_last test s.t1 in omega (arith, f))
] refl

fourth_b : (c : ℕ) (p : Key) (s : ArcState) → 1 ≤ c → Lawful c s → holds p s.t1 ≡ false → length s.t1 + length s.b1 < c → Fetches c p s (fetched p (case_b c s))
fourth_b c p s some lawful out fewer = elim (nat_lt (all_pages s) c) as (λ b. nat_lt (all_pages s) c ≡ b → Fetches c p s (fetched p (cond b s (replaced false (cond (all_pages s == 2 * c) (without_b2 s) s))))) [
  | true ↦ λ h. let free : all_pages s < c = less (all_pages s) c h in
      first_gains c p s s out (omega (arith, free)) fewer lawful.target (inl (empty free lawful.full)) (λ test. omega arith)
  | false ↦ λ h. let many : c ≤ all_pages s = most (all_pages s) c h in let all : room s ≡ c = whole many lawful.full in
      elim (all_pages s == 2 * c) as (λ b. Fetches c p s (fetched p (replaced false (cond b (without_b2 s) s)))) [
        | true ↦ after_replace c p s (without_b2 s) some refl refl lawful.target out all (omega (arith, fewer)) fewer
        | false ↦ after_replace c p s s some refl refl lawful.target out all (omega (arith, fewer)) fewer
      ]
] refl
  where
    empty : all_pages s < c → (length s.b1 + length s.b2 ≡ 0) ⊎ (room s ≡ c) → length s.b1 + length s.b2 ≡ 0
    empty free (inl h) = h
    empty free (inr h) = absurd (omega (arith, free, h))

    whole : c ≤ all_pages s → (length s.b1 + length s.b2 ≡ 0) ⊎ (room s ≡ c) → room s ≡ c
    whole many (inl h) = let few : room s ≤ c = lawful.few in omega (arith, many, h, few)
    whole many (inr h) = h

fourth_case : (c : ℕ) (p : Key) (s : ArcState) → 1 ≤ c → Lawful c s → holds p s.t1 ≡ false → Fetches c p s (new_page c p s)
fourth_case c p s some lawful out = elim (length s.t1 + length s.b1 == c) as (λ b. (length s.t1 + length s.b1 == c) ≡ b → Fetches c p s (fetched p (cond b (case_a c s) (case_b c s)))) [
  | true ↦ λ h. fourth_a c p s some lawful out (equal (length s.t1 + length s.b1) c h)
  | false ↦ λ h. fourth_b c p s some lawful out (let few : length s.t1 + length s.b1 ≤ c = lawful.first in unequal (length s.t1 + length s.b1) c h few)
] refl
  where
    equal : (a b : ℕ) → (a == b) ≡ true → a ≡ b
    equal a b h = grind (arith, nat_tests)

    unequal : (a b : ℕ) → (a == b) ≡ false → a ≤ b → a < b
    unequal a b h g = grind (arith, nat_tests)

misses_fetch : (c : ℕ) (p : Key) (s : ArcState) → 1 ≤ c → Lawful c s → holds p s.t1 ≡ false → holds p s.t2 ≡ false → Fetches c p s (missed c p s)
misses_fetch c p s some lawful out_first out_second = elim (holds p s.b1) as (λ b. holds p s.b1 ≡ b → Fetches c p s (cond b (from_first p (replaced false (grown c s))) (cond (holds p s.b2) (from_second p (replaced true (shrunk s))) (new_page c p s)))) [
  | true ↦ λ h. second_case c p s some lawful out_second h
  | false ↦ λ h. elim (holds p s.b2) as (λ b. holds p s.b2 ≡ b → Fetches c p s (cond b (from_second p (replaced true (shrunk s))) (new_page c p s))) [
    | true ↦ λ g. third_case c p s some lawful out_second g
    | false ↦ λ g. fourth_case c p s some lawful out_first
  ] refl
] refl

-- Case I
record Keeps (c : ℕ) (p : Key) (s t : ArcState) : Type 0 where
  lawful : Lawful c t
  there : holds p (pages t) ≡ true
  from : (test : Key → Bool) → count test t ≤ count test s

hits_keep : (c : ℕ) (p : Key) (s : ArcState) → Lawful c s → in_arc p s ≡ true → Keeps c p s (hit p s)
hits_keep c p s lawful is = elim (holds p s.t2) as (λ b. holds p s.t2 ≡ b → cond b true (holds p s.t1) ≡ true → Keeps c p s (record { t1 = cond b s.t1 (without p s.t1); t2 = to_front p s.t2; b1 = s.b1; b2 = s.b2; target = s.target })) [
  | true ↦ λ h g.
      let l : length (to_front p s.t2) ≡ length s.t2 = length_moved p s.t2 h in
      let few : room s ≤ c = lawful.few in record {
        lawful = record { few = omega (arith, l, few); first = lawful.first; target = lawful.target; full = same_room (to_front p s.t2) s.t1 (omega (arith, l)) lawful.full };
        there = there_first p (to_front p s.t2) s.t1 (front_there p s.t2);
        from = λ test. let f : number test (to_front p s.t2) ≡ number test s.t2 = number_moved test p s.t2 h in omega (arith, f);
      }
  | false ↦ λ h g.
      let l : length (to_front p s.t2) ≡ length s.t2 + 1 = length_new p s.t2 h in
      let k : length (without p s.t1) + 1 ≡ length s.t1 = length_out p s.t1 g in
      let few : room s ≤ c = lawful.few in
      let first : length s.t1 + length s.b1 ≤ c = lawful.first in record {
        lawful = record { few = omega (arith, l, k, few); first = omega (arith, k, first); target = lawful.target; full = same_room (to_front p s.t2) (without p s.t1) (omega (arith, l, k)) lawful.full };
        there = there_first p (to_front p s.t2) (without p s.t1) (front_there p s.t2);
        from = λ test.
            let f : number test (to_front p s.t2) ≤ number test s.t2 + cond (test p) 1 0 = number_front test p s.t2 in
            let o : number test (without p s.t1) + cond (test p) 1 0 ≡ number test s.t1 = number_out test p s.t1 g in omega (arith, f, o);
      }
] refl is
  where
    same_room : (a b : List Key) → length b + length a ≡ room s → (length s.b1 + length s.b2 ≡ 0) ⊎ (room s ≡ c) → (length s.b1 + length s.b2 ≡ 0) ⊎ (length b + length a ≡ c)
    same_room a b e (inl h) = inl h
    same_room a b e (inr h) = inr (e ∙ h)

out_of : (p : Key) (s : ArcState) → in_arc p s ≡ false → (holds p s.t1 ≡ false) × (holds p s.t2 ≡ false)
out_of p s h = elim (holds p s.t2) as (λ b. holds p s.t2 ≡ b → cond b true (holds p s.t1) ≡ false → (holds p s.t1 ≡ false) × (holds p s.t2 ≡ false)) [
  | true ↦ λ is g. absurd (no g)
  | false ↦ λ is g. (g, is)
] refl h
  where
    no : true ≡ false → ⊥
    no e = cc

serves : (c : ℕ) → 1 ≤ c → (p : Key) (s : ArcState) → Lawful c s → Serves c pages (Lawful c) in_arc p s (arc c p s)
serves c some p s lawful = elim (in_arc p s) as (λ b. in_arc p s ≡ b → Serves c pages (Lawful c) in_arc p s (cond b (hit p s) (missed c p s))) [
  | true ↦ λ h. let k : Keeps c p s (hit p s) = hits_keep c p s lawful h in record {
    found = found p s;
    leaves = hit_leaves c p (pages s) (pages (hit p s)) (sym h ∙ found p s) k.there (small (hit p s) k.lawful) (λ test. within test (hit p s) (k.from test));
    lawful_after = k.lawful;
  }
  | false ↦ λ h. let out : (holds p s.t1 ≡ false) × (holds p s.t2 ≡ false) = out_of p s h in let k : Fetches c p s (missed c p s) = misses_fetch c p s some lawful out.0 out.1 in record {
    found = found p s;
    leaves = miss_leaves c p (pages s) (pages (missed c p s)) (sym h ∙ found p s) k.there (small (missed c p s) k.lawful) (λ test. within_one test (missed c p s) (k.from test));
    lawful_after = k.lawful;
  }
] refl
  where
    small : (t : ArcState) → Lawful c t → length (pages t) ≤ c
    small t l = let e : length (pages t) ≡ room t = size t in let f : room t ≤ c = l.few in omega (arith, e, f)

    within : (test : Key → Bool) (t : ArcState) → count test t ≤ count test s → number test (pages t) ≤ number test (pages s)
    within test t h = let e : number test (pages t) ≡ count test t = counted test t in let f : number test (pages s) ≡ count test s = counted test s in omega (arith, e, f, h)

    within_one : (test : Key → Bool) (t : ArcState) → count test t ≤ count test s + cond (test p) 1 0 → number test (pages t) ≤ number test (pages s) + cond (test p) 1 0
    within_one test t h = let e : number test (pages t) ≡ count test t = counted test t in let f : number test (pages s) ≡ count test s = counted test s in omega (arith, e, f, h)

pub arc_played : IsPlayed arc_misses
unfolding arc_misses
arc_played frames string some = served_plays frames pages (Lawful frames) in_arc (arc frames) (serves frames some) (record { t1 = []; t2 = []; b1 = []; b2 = []; target = 0 }) string
    (record { few = omega arith; first = omega arith; target = omega arith; full = inl refl })
