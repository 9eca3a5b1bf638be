-- SIEVE is a way to serve a string: a proof.
use Rattle.std.specs.Prelude.{◌≡◌, ℕ, zero, suc, ◌+◌, ◌-◌, ◌<◌, ◌≤◌, ◌==◌, Bool, true, false, cond, nat_lt, List, [], ◌++◌, length, Option, Some, None, refl}
use Rattle.std.proofs.Common.{arith, sym, ◌∙◌}
use Rattle.std.proofs.lemmas.Bool.Decides.{nat_tests}
use Rattle.clock_policy.specs.declared.key.Key.{Key}
use Rattle.page_policies.specs.Strings.{is_page, holds}
use Rattle.page_policies.specs.Ordered.{to_front, last_of, but_last}
use Rattle.page_policies.specs.Demand.{number, IsPlayed}
use Rattle.page_policies.proofs.NumberLaws.{less, most}
use Rattle.page_policies.proofs.PartLaws.{number_append, holds_append, there_first, length_parts, front_there, number_front, length_front, length_but_last, number_but_last, last_split, hit_leaves, miss_leaves, Serves, served_plays}
use Rattle.younger_policies.specs.Sieve.{SieveState, wrapped, hand_visited, passed, discarded, swept, queue_length, made_room, inserted, visit, in_sieve, sieve, sieve_misses}

-- the pages in frames
abbrev pages : SieveState → List Key
pages s = s.ahead ++ s.behind

abbrev count : (Key → Bool) → SieveState → ℕ
count test s = number test s.ahead + number test s.behind

found : (p : Key) (s : SieveState) → in_sieve p s ≡ holds p (pages s)
found p s = sym (holds_append p s.ahead s.behind)

-- whether the hand has a page before it, where there is one
abbrev HasHand : SieveState → Type 0
HasHand s = length s.ahead ≡ 0 → length s.behind ≡ 0

-- What the hand does: it brings no page in, and so many fewer are there at least.
record Turns (less : ℕ) (s t : SieveState) : Type 0 where
  few : queue_length t + less ≤ queue_length s
  fewer : (test : Key → Bool) → count test t ≤ count test s
  hand : HasHand t

wraps : (s : SieveState) → Turns 0 s (wrapped s)
wraps s = elim (length s.ahead == 0) as (λ b. (length s.ahead == 0) ≡ b → Turns 0 s (cond b (record { ahead = s.behind; behind = s.ahead; visited = s.visited }) s)) [
  | true ↦ λ h. record { few = omega arith; fewer = λ test. omega arith; hand = λ _. zero_of (length s.ahead) h }
  | false ↦ λ h. record { few = omega arith; fewer = λ test. omega arith; hand = λ g. absurd (some_of (length s.ahead) h g) }
] refl
  where
    zero_of : (n : ℕ) → (n == 0) ≡ true → n ≡ 0
    zero_of n h = grind (arith, nat_tests)

    some_of : (n : ℕ) → (n == 0) ≡ false → n ≡ 0 → ⊥
    some_of n h g = grind (arith, nat_tests)

wrapped_some : (s : SieveState) → queue_length (wrapped s) ≡ queue_length s
wrapped_some s = elim (length s.ahead == 0) as (λ b. queue_length (cond b (record { ahead = s.behind; behind = s.ahead; visited = s.visited }) s) ≡ queue_length s) [ true ↦ omega arith | false ↦ refl ]

some_ahead : (s : SieveState) → HasHand s → 1 ≤ queue_length s → 1 ≤ length s.ahead
some_ahead s hand some = either (length s.ahead) (length s.behind) hand some
  where
    either : (a b : ℕ) → (a ≡ 0 → b ≡ 0) → 1 ≤ a + b → 1 ≤ a
    either zero b h some = absurd (let e : b ≡ 0 = h refl in omega (arith, e, some))
    either (suc a) b h some = omega arith

discards : (s : SieveState) → HasHand s → 1 ≤ queue_length s → Turns 1 s (discarded s)
discards s hand some =
    let t : Turns 0 (record { ahead = but_last s.ahead; behind = s.behind; visited = s.visited }) (discarded s) = wraps (record { ahead = but_last s.ahead; behind = s.behind; visited = s.visited }) in
    let one : 1 ≤ length s.ahead = some_ahead s hand some in
    let e : length (but_last s.ahead) ≡ length s.ahead - 1 = length_but_last s.ahead in record {
      few = let f : queue_length (discarded s) + 0 ≤ length (but_last s.ahead) + length s.behind = t.few in omega (arith, f, e, one);
      fewer = λ test.
          let f : count test (discarded s) ≤ number test (but_last s.ahead) + number test s.behind = t.fewer test in
          let g : number test (but_last s.ahead) ≤ number test s.ahead = number_but_last test s.ahead in omega (arith, f, g);
      hand = t.hand;
    }

record Passes (s t : SieveState) : Type 0 where
  turns : Turns 0 s t
  some : 1 ≤ queue_length t

passes : (o : Key) (s : SieveState) → HasHand s → 1 ≤ queue_length s → last_of s.ahead ≡ Some o → Passes s (passed (Some o) s)
passes o s hand some is =
    let t : Turns 0 (record { ahead = but_last s.ahead; behind = to_front o s.behind; visited = λ q. cond (is_page o q) false (s.visited q) }) (passed (Some o) s) =
    wraps (record { ahead = but_last s.ahead; behind = to_front o s.behind; visited = λ q. cond (is_page o q) false (s.visited q) }) in
    let one : 1 ≤ length s.ahead = some_ahead s hand some in
    let e : length (but_last s.ahead) ≡ length s.ahead - 1 = length_but_last s.ahead in
    let k : length (to_front o s.behind) ≤ length s.behind + 1 = length_front o s.behind in record {
      turns = record {
        few = let f : queue_length (passed (Some o) s) + 0 ≤ length (but_last s.ahead) + length (to_front o s.behind) = t.few in omega (arith, f, e, one, k);
        fewer = λ test.
            let f : count test (passed (Some o) s) ≤ number test (but_last s.ahead) + number test (to_front o s.behind) = t.fewer test in
            let g : number test (but_last s.ahead) + cond (test o) 1 0 ≡ number test s.ahead = last_split test s.ahead o is in
            let h : number test (to_front o s.behind) ≤ number test s.behind + cond (test o) 1 0 = number_front test o s.behind in omega (arith, f, g, h);
        hand = t.hand;
      };
      some =
          let w : queue_length (passed (Some o) s) ≡ length (but_last s.ahead) + length (to_front o s.behind) =
          wrapped_some (record { ahead = but_last s.ahead; behind = to_front o s.behind; visited = λ q. cond (is_page o q) false (s.visited q) }) in omega (arith, w);
    }

sweeps : (n : ℕ) (s : SieveState) → HasHand s → 1 ≤ queue_length s → Turns 1 s (swept n s)
sweeps zero s hand some = discards s hand some
sweeps (suc n) s hand some = elim (hand_visited (last_of s.ahead) s) as (λ b. hand_visited (last_of s.ahead) s ≡ b → Turns 1 s (cond b (swept n (passed (last_of s.ahead) s)) (discarded s))) [
  | true ↦ λ h. by_hand (last_of s.ahead) (sweeps n) refl h
  | false ↦ λ h. discards s hand some
] refl
  where
    by_hand : (o : Option Key) → ((t : SieveState) → HasHand t → 1 ≤ queue_length t → Turns 1 t (swept n t)) → last_of s.ahead ≡ o → hand_visited o s ≡ true → Turns 1 s (swept n (passed o s))
    by_hand None more is h = cc
    by_hand (Some o) more is h =
        let a : Passes s (passed (Some o) s) = passes o s hand some is in
        let b : Turns 1 (passed (Some o) s) (swept n (passed (Some o) s)) = more (passed (Some o) s) a.turns.hand a.some in record {
          few =
              let x : queue_length (passed (Some o) s) + 0 ≤ queue_length s = a.turns.few in
              let y : queue_length (swept n (passed (Some o) s)) + 1 ≤ queue_length (passed (Some o) s) = b.few in omega (arith, x, y);
          fewer = λ test.
              let x : count test (passed (Some o) s) ≤ count test s = a.turns.fewer test in
              let y : count test (swept n (passed (Some o) s)) ≤ count test (passed (Some o) s) = b.fewer test in omega (arith, x, y);
          hand = b.hand;
        }

record Lawful (m : ℕ) (s : SieveState) : Type 0 where
  few : queue_length s ≤ m
  hand : HasHand s

-- room for one page
record Room (m : ℕ) (s t : SieveState) : Type 0 where
  few : queue_length t < m
  fewer : (test : Key → Bool) → count test t ≤ count test s

room_is : (m : ℕ) (s : SieveState) → 1 ≤ m → Lawful m s → Room m s (made_room m s)
room_is m s some lawful = elim (nat_lt (queue_length s) m) as (λ b. nat_lt (queue_length s) m ≡ b → Room m s (cond b s (swept (queue_length s) s))) [
  | true ↦ λ h. record { few = less (queue_length s) m h; fewer = λ test. omega arith }
  | false ↦ λ h.
      let full : m ≤ queue_length s = most (queue_length s) m h in
      let t : Turns 1 s (swept (queue_length s) s) = sweeps (queue_length s) s lawful.hand (omega (arith, full, some)) in
      record { few = let f : queue_length (swept (queue_length s) s) + 1 ≤ queue_length s = t.few in let g : queue_length s ≤ m = lawful.few in omega (arith, f, g); fewer = t.fewer }
] refl

size : (s : SieveState) → length (pages s) ≡ queue_length s
size s = length_parts s.ahead s.behind

counted : (test : Key → Bool) (s : SieveState) → number test (pages s) ≡ count test s
counted test s = number_append test s.ahead s.behind

serves : (m : ℕ) → 1 ≤ m → (p : Key) (s : SieveState) → Lawful m s → Serves m pages (Lawful m) in_sieve p s (sieve m p s)
serves m some p s lawful = elim (in_sieve p s) as (λ b. in_sieve p s ≡ b → Serves m pages (Lawful m) in_sieve p s (cond b (visit p s) (inserted p (made_room m s)))) [
  | true ↦ λ h. record {
    found = found p s;
    leaves = hit_leaves m p (pages s) (pages s) (sym h ∙ found p s) (sym (found p s) ∙ h) (let e : length (pages s) ≡ queue_length s = size s in let f : queue_length s ≤ m = lawful.few in omega (arith, e, f)) (λ test. omega arith);
    lawful_after = record { few = lawful.few; hand = lawful.hand };
  }
  | false ↦ λ h.
      let r : Room m s (made_room m s) = room_is m s some lawful in
      let l : length (to_front p (made_room m s).ahead) ≤ length (made_room m s).ahead + 1 = length_front p (made_room m s).ahead in
      let few : queue_length (made_room m s) < m = r.few in record {
        found = found p s;
        leaves = miss_leaves m p (pages s) (pages (inserted p (made_room m s))) (sym h ∙ found p s)
            (there_first p (to_front p (made_room m s).ahead) (made_room m s).behind (front_there p (made_room m s).ahead))
            (let e : length (pages (inserted p (made_room m s))) ≡ queue_length (inserted p (made_room m s)) = size (inserted p (made_room m s)) in omega (arith, e, l, few))
            (λ test.
            let e : number test (pages (inserted p (made_room m s))) ≡ count test (inserted p (made_room m s)) = counted test (inserted p (made_room m s)) in
            let f : number test (pages s) ≡ count test s = counted test s in
            let g : count test (made_room m s) ≤ count test s = r.fewer test in
            let k : number test (to_front p (made_room m s).ahead) ≤ number test (made_room m s).ahead + cond (test p) 1 0 = number_front test p (made_room m s).ahead in omega (arith, e, f, g, k));
        lawful_after = record { few = omega (arith, l, few); hand = λ g. absurd (omega (arith, g)) };
      }
] refl

pub sieve_played : IsPlayed sieve_misses
unfolding sieve_misses
sieve_played frames string some = served_plays frames pages (Lawful frames) in_sieve (sieve frames) (serves frames some) (record { ahead = []; behind = []; visited = λ q. false }) string
    (record { few = omega arith; hand = λ g. refl })
