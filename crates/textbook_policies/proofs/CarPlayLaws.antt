-- CAR is a way to serve a string: a proof.
use Rattle.std.specs.Prelude.{◌≡◌, ℕ, zero, suc, ◌+◌, ◌-◌, ◌*◌, ◌≤◌, ◌<◌, ◌==◌, Bool, true, false, cond, nat_lt, nat_le, min, max, List, [], ◌++◌, length, Option, Some, None, refl}
use Rattle.std.proofs.Common.{arith, sym, ap, ◌∙◌}
use Rattle.std.proofs.lemmas.Bool.Decides.{nat_tests}
use Rattle.clock_policy.specs.declared.key.Key.{Key}
use Rattle.page_policies.specs.Strings.{holds}
use Rattle.page_policies.specs.Ordered.{to_front, last_of, but_last}
use Rattle.page_policies.specs.Demand.{number, MayLeave, IsPlayed}
use Rattle.page_policies.proofs.NumberLaws.{less, most}
use Rattle.page_policies.proofs.PartLaws.{number_append, holds_append, there_first, there_second, length_parts, front_there, number_front, length_front, length_moved, number_moved, length_but_last, number_but_last, last_split, last_there, some_last, hit_leaves, miss_leaves, Serves, served_plays}
use Rattle.textbook_policies.specs.Car.{CarState, takes_first, first_out, first_on, second_out, second_on, head_used, head_out, head_on, replaced, in_frames, in_history, directory_cut, room_made, step_of, from_first, from_second, came, inserted, used, in_car, car, car_misses}

-- the pages in frames
abbrev pages : CarState → List Key
pages s = s.t2 ++ s.t1

abbrev count : (Key → Bool) → CarState → ℕ
count test s = number test s.t1 + number test s.t2

found : (p : Key) (s : CarState) → in_car p s ≡ holds p (pages s)
found p s = sym (holds_append p s.t2 s.t1)

size : (s : CarState) → length (pages s) ≡ in_frames s
size s = let e : length (s.t2 ++ s.t1) ≡ length s.t2 + length s.t1 = length_parts s.t2 s.t1 in omega (arith, e)

counted : (test : Key → Bool) (s : CarState) → number test (pages s) ≡ count test s
counted test s = let e : number test (s.t2 ++ s.t1) ≡ number test s.t2 + number test s.t1 = number_append test s.t2 s.t1 in omega (arith, e)

-- No page comes in, and the target stays.
record Keeps (s t : CarState) : Type 0 where
  few : in_frames t ≤ in_frames s
  fewer : (test : Key → Bool) → count test t ≤ count test s
  target : t.target ≡ s.target

first_passes : (o : Option Key) (s : CarState) → last_of s.t1 ≡ o → Keeps s (first_on o s)
first_passes None s is = record { few = omega arith; fewer = λ test. omega arith; target = refl }
first_passes (Some q) s is =
    let e : length (but_last s.t1) ≡ length s.t1 - 1 = length_but_last s.t1 in
    let one : 1 ≤ length s.t1 = some_last s.t1 q is in
    let l : length (to_front q s.t2) ≤ length s.t2 + 1 = length_front q s.t2 in record {
      few = omega (arith, e, one, l);
      fewer = λ test.
          let f : number test (but_last s.t1) + cond (test q) 1 0 ≡ number test s.t1 = last_split test s.t1 q is in
          let g : number test (to_front q s.t2) ≤ number test s.t2 + cond (test q) 1 0 = number_front test q s.t2 in omega (arith, f, g);
      target = refl;
    }

second_passes : (o : Option Key) (s : CarState) → last_of s.t2 ≡ o → Keeps s (second_on o s)
second_passes None s is = record { few = omega arith; fewer = λ test. omega arith; target = refl }
second_passes (Some q) s is =
    let there : holds q s.t2 ≡ true = last_there s.t2 q is in
    let l : length (to_front q s.t2) ≡ length s.t2 = length_moved q s.t2 there in record {
      few = omega (arith, l);
      fewer = λ test. let g : number test (to_front q s.t2) ≡ number test s.t2 = number_moved test q s.t2 there in omega (arith, g);
      target = refl;
    }

passes : (s : CarState) → Keeps s (head_on s)
passes s = elim (takes_first s) as (λ b. Keeps s (cond b (first_on (last_of s.t1) s) (second_on (last_of s.t2) s))) [ true ↦ first_passes (last_of s.t1) s refl | false ↦ second_passes (last_of s.t2) s refl ]

-- room for one page
record Room (c : ℕ) (s t : CarState) : Type 0 where
  few : in_frames t < c
  fewer : (test : Key → Bool) → count test t ≤ count test s
  target : t.target ≡ s.target

leaves_one : (c : ℕ) (s : CarState) → 1 ≤ c → in_frames s ≤ c → s.target ≤ c → Room c s (head_out s)
leaves_one c s some few target = elim (takes_first s) as (λ b. takes_first s ≡ b → Room c s (cond b (first_out s) (second_out s))) [
  | true ↦ λ h.
      let e : length (but_last s.t1) ≡ length s.t1 - 1 = length_but_last s.t1 in
      let one : 1 ≤ length s.t1 = first_some s.target (length s.t1) h in record {
        few = omega (arith, e, one, few);
        fewer = λ test. let f : number test (but_last s.t1) ≤ number test s.t1 = number_but_last test s.t1 in omega (arith, f);
        target = refl;
      }
  | false ↦ λ h.
      let e : length (but_last s.t2) ≡ length s.t2 - 1 = length_but_last s.t2 in
      let short : length s.t1 < c = first_few s.target (length s.t1) c some target h in record {
        few = omega (arith, e, short, few);
        fewer = λ test. let f : number test (but_last s.t2) ≤ number test s.t2 = number_but_last test s.t2 in omega (arith, f);
        target = refl;
      }
] refl
  where
    first_some : (t n : ℕ) → nat_le (max 1 t) n ≡ true → 1 ≤ n
    first_some t n h = grind (arith, nat_tests)

    first_few : (t n c : ℕ) → 1 ≤ c → t ≤ c → nat_le (max 1 t) n ≡ false → n < c
    first_few t n c some target h = grind (arith, nat_tests)

replaces : (n c : ℕ) (s : CarState) → 1 ≤ c → in_frames s ≤ c → s.target ≤ c → Room c s (replaced n s)
replaces zero c s some few target = leaves_one c s some few target
replaces (suc n) c s some few target = elim (head_used s) as (λ b. Room c s (cond b (replaced n (head_on s)) (head_out s))) [
  | true ↦
      let k : Keeps s (head_on s) = passes s in
      let f : in_frames (head_on s) ≤ in_frames s = k.few in
      let t : (head_on s).target ≡ s.target = k.target in
      let r : Room c (head_on s) (replaced n (head_on s)) = replaces n c (head_on s) some (omega (arith, f, few)) (omega (arith, t, target)) in record {
        few = r.few;
        fewer = λ test. let x : count test (head_on s) ≤ count test s = k.fewer test in let y : count test (replaced n (head_on s)) ≤ count test (head_on s) = r.fewer test in omega (arith, x, y);
        target = r.target ∙ t;
      }
  | false ↦ leaves_one c s some few target
]

-- the lists of pages that left are no pages in frames
cuts : (c : ℕ) (p : Key) (s t : CarState) → Room c s t → Room c s (directory_cut c p t)
cuts c p s t r = elim (in_history p t) as (λ b. Room c s (cond b t
    (cond (length t.t1 + length t.b1 == c) (record t { b1 = but_last t.b1 })
    (cond (in_frames t + (length t.b1 + length t.b2) == 2 * c) (record t { b2 = but_last t.b2 }) t)))) [
      | true ↦ r
      | false ↦ elim (length t.t1 + length t.b1 == c) as (λ b. Room c s (cond b (record t { b1 = but_last t.b1 }) (cond (in_frames t + (length t.b1 + length t.b2) == 2 * c) (record t { b2 = but_last t.b2 }) t))) [
        | true ↦ record { few = r.few; fewer = r.fewer; target = r.target }
        | false ↦ elim (in_frames t + (length t.b1 + length t.b2) == 2 * c) as (λ b. Room c s (cond b (record t { b2 = but_last t.b2 }) t)) [ true ↦ record { few = r.few; fewer = r.fewer; target = r.target } | false ↦ r ]
      ]
    ]

record Lawful (c : ℕ) (s : CarState) : Type 0 where
  few : in_frames s ≤ c
  target : s.target ≤ c

room_is : (c : ℕ) (p : Key) (s : CarState) → 1 ≤ c → Lawful c s → Room c s (room_made c p s)
room_is c p s some lawful = elim (nat_lt (in_frames s) c) as (λ b. nat_lt (in_frames s) c ≡ b → Room c s (cond b s (directory_cut c p (replaced (in_frames s) s)))) [
  | true ↦ λ h. record { few = less (in_frames s) c h; fewer = λ test. omega arith; target = refl }
  | false ↦ λ h. cuts c p s (replaced (in_frames s) s) (replaces (in_frames s) c s some lawful.few lawful.target)
] refl

-- the page comes in where there is room for it
record Fetches (c : ℕ) (p : Key) (s t : CarState) : Type 0 where
  lawful : Lawful c t
  there : holds p (pages t) ≡ true
  from : (test : Key → Bool) → count test t ≤ count test s + cond (test p) 1 0

fetches : (c : ℕ) (p : Key) (s : CarState) → in_frames s < c → s.target ≤ c → Fetches c p s (inserted c p s)
fetches c p s few target = elim (holds p s.b1) as (λ b. Fetches c p s (cond b (from_first c p s) (cond (holds p s.b2) (from_second p s) (came p s)))) [
  | true ↦ second (from_first c p s) refl refl (at_most (s.target + step_of (length s.b1) (length s.b2)) c)
  | false ↦ elim (holds p s.b2) as (λ b. Fetches c p s (cond b (from_second p s) (came p s))) [
    | true ↦ second (from_second p s) refl refl (fewer s.target (step_of (length s.b2) (length s.b1)) c target)
    | false ↦ let l : length (to_front p s.t1) ≤ length s.t1 + 1 = length_front p s.t1 in record {
      lawful = record { few = omega (arith, l, few); target = target };
      there = there_second p s.t2 (to_front p s.t1) (front_there p s.t1);
      from = λ test. let f : number test (to_front p s.t1) ≤ number test s.t1 + cond (test p) 1 0 = number_front test p s.t1 in omega (arith, f);
    }
  ]
]
  where
    at_most : (a c : ℕ) → min a c ≤ c
    at_most a c = grind arith

    fewer : (a b c : ℕ) → a ≤ c → a - b ≤ c
    fewer a b c h = omega (arith, h)

    second : (t : CarState) → t.t1 ≡ s.t1 → t.t2 ≡ to_front p s.t2 → t.target ≤ c → Fetches c p s t
    second t first second_is within =
        let l : length (to_front p s.t2) ≤ length s.t2 + 1 = length_front p s.t2 in
        let l1 : length t.t1 ≡ length s.t1 = ap length first in
        let l2 : length t.t2 ≡ length (to_front p s.t2) = ap length second_is in record {
          lawful = record { few = omega (arith, l, l1, l2, few); target = within };
          there = there_first p t.t2 t.t1 (ap (holds p) second_is ∙ front_there p s.t2);
          from = λ test.
              let n1 : number test t.t1 ≡ number test s.t1 = ap (number test) first in
              let n2 : number test t.t2 ≡ number test (to_front p s.t2) = ap (number test) second_is in
              let f : number test (to_front p s.t2) ≤ number test s.t2 + cond (test p) 1 0 = number_front test p s.t2 in omega (arith, n1, n2, f);
        }

serves : (c : ℕ) → 1 ≤ c → (p : Key) (s : CarState) → Lawful c s → Serves c pages (Lawful c) in_car p s (car c p s)
serves c some p s lawful = elim (in_car p s) as (λ b. in_car p s ≡ b → Serves c pages (Lawful c) in_car p s (cond b (used p s) (inserted c p (room_made c p s)))) [
  | true ↦ λ h. record {
    found = found p s;
    leaves = hit_leaves c p (pages s) (pages s) (sym h ∙ found p s) (sym (found p s) ∙ h) (let e : length (pages s) ≡ in_frames s = size s in let f : in_frames s ≤ c = lawful.few in omega (arith, e, f)) (λ test. omega arith);
    lawful_after = record { few = lawful.few; target = lawful.target };
  }
  | false ↦ λ h.
      let r : Room c s (room_made c p s) = room_is c p s some lawful in
      let before : s.target ≤ c = lawful.target in
      let same : (room_made c p s).target ≡ s.target = r.target in
      let t : Fetches c p (room_made c p s) (inserted c p (room_made c p s)) = fetches c p (room_made c p s) r.few (omega (arith, before, same)) in record {
        found = found p s;
        leaves = miss_leaves c p (pages s) (pages (inserted c p (room_made c p s))) (sym h ∙ found p s) t.there
            (let e : length (pages (inserted c p (room_made c p s))) ≡ in_frames (inserted c p (room_made c p s)) = size (inserted c p (room_made c p s)) in
            let f : in_frames (inserted c p (room_made c p s)) ≤ c = t.lawful.few in omega (arith, e, f))
            (λ test.
            let e : number test (pages (inserted c p (room_made c p s))) ≡ count test (inserted c p (room_made c p s)) = counted test (inserted c p (room_made c p s)) in
            let f : number test (pages s) ≡ count test s = counted test s in
            let g : count test (room_made c p s) ≤ count test s = r.fewer test in
            let k : count test (inserted c p (room_made c p s)) ≤ count test (room_made c p s) + cond (test p) 1 0 = t.from test in omega (arith, e, f, g, k));
        lawful_after = t.lawful;
      }
] refl

pub car_played : IsPlayed car_misses
unfolding car_misses
car_played frames string some =
    served_plays frames pages (Lawful frames) in_car (car frames) (serves frames some) (record { t1 = []; t2 = []; b1 = []; b2 = []; referenced = λ q. false; target = 0 }) string (record { few = omega arith; target = omega arith })
