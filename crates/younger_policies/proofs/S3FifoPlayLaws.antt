-- S3-FIFO is a way to serve a string: a proof.
use Rattle.std.specs.Prelude.{◌≡◌, ℕ, zero, suc, ◌+◌, ◌-◌, ◌*◌, ◌<◌, ◌≤◌, ◌⊎◌, Bool, true, false, cond, nat_lt, nat_le, List, [], ◌++◌, length, Option, Some, None, refl}
use Rattle.std.proofs.Common.{arith, sym, ap, inl, inr, ◌∙◌}
use Rattle.std.proofs.Math.Nat.{mul-le-mul_left}
use Rattle.std.proofs.lemmas.Bool.Decides.{nat_tests}
use Rattle.clock_policy.specs.declared.key.Key.{Key}
use Rattle.page_policies.specs.Strings.{holds}
use Rattle.page_policies.specs.Ordered.{to_front, last_of, but_last}
use Rattle.page_policies.specs.Demand.{number, MayLeave, IsPlayed}
use Rattle.page_policies.proofs.NumberLaws.{less, most}
use Rattle.page_policies.proofs.PartLaws.{number_append, holds_append, there_first, there_second, length_parts, front_there, number_front, length_front, length_moved, number_moved, length_but_last, number_but_last, last_split, last_there, none_last, some_last, hit_leaves, miss_leaves, Serves, served_plays}
use Rattle.younger_policies.specs.declared.s3_fifo_shares.S3FifoShares.{S3FifoShares}
use Rattle.younger_policies.specs.declared.s3_fifo_shares.S3FifoRooms.{S3FifoRooms}
use Rattle.younger_policies.specs.S3Fifo.{S3FifoState, rooms_of, moved_freq, pages_in, main_again, tail_freq, main_out, evicted_main, main_turned, main_cut, small_up, small_out, evicted_small, evicted, room_made, came_back, came, inserted, used, in_s3_fifo, s3_fifo, s3_fifo_misses}

-- the pages in frames
abbrev pages : S3FifoState → List Key
pages s = s.small ++ s.main

abbrev count : (Key → Bool) → S3FifoState → ℕ
count test s = number test s.small + number test s.main

found : (p : Key) (s : S3FifoState) → in_s3_fifo p s ≡ holds p (pages s)
found p s = sym (holds_append p s.small s.main)

size : (s : S3FifoState) → length (pages s) ≡ pages_in s
size s = length_parts s.small s.main

counted : (test : Key → Bool) (s : S3FifoState) → number test (pages s) ≡ count test s
counted test s = number_append test s.small s.main

-- What an eviction from M leaves: S as it was, M with one page fewer, if it had one, and no page that was not there.
record FromMain (s t : S3FifoState) : Type 0 where
  small : t.small ≡ s.small
  main : length t.main ≤ length s.main - 1
  fewer : (test : Key → Bool) → number test t.main ≤ number test s.main

takes_tail : (s : S3FifoState) → FromMain s (main_out s)
takes_tail s = let e : length (but_last s.main) ≡ length s.main - 1 = length_but_last s.main in record { small = refl; main = omega (arith, e); fewer = λ test. number_but_last test s.main }

-- a page that goes to the head of M
record Again (s t : S3FifoState) : Type 0 where
  small : t.small ≡ s.small
  main : length t.main ≡ length s.main
  same : (test : Key → Bool) → number test t.main ≡ number test s.main

goes_again : (o : Option Key) (s : S3FifoState) → last_of s.main ≡ o → Again s (main_again o s)
goes_again None s is = record { small = refl; main = refl; same = λ test. refl }
goes_again (Some t) s is = let there : holds t s.main ≡ true = last_there s.main t is in record { small = refl; main = length_moved t s.main there; same = λ test. number_moved test t s.main there }

evicts_main : (n : ℕ) (s : S3FifoState) → FromMain s (evicted_main n s)
evicts_main zero s = takes_tail s
evicts_main (suc n) s = elim (nat_lt 0 (tail_freq (last_of s.main) s)) as (λ b. FromMain s (cond b (evicted_main n (main_again (last_of s.main) s)) (main_out s))) [
  | true ↦ both (main_again (last_of s.main) s) (evicted_main n (main_again (last_of s.main) s)) (goes_again (last_of s.main) s refl) (evicts_main n (main_again (last_of s.main) s))
  | false ↦ takes_tail s
]
  where
    both : (t u : S3FifoState) → Again s t → FromMain t u → FromMain s u
    both t u a f = record {
      small = f.small ∙ a.small;
      main = let x : length t.main ≡ length s.main = a.main in let y : length u.main ≤ length t.main - 1 = f.main in omega (arith, x, y);
      fewer = λ test. let x : number test t.main ≡ number test s.main = a.same test in let y : number test u.main ≤ number test t.main = f.fewer test in omega (arith, x, y);
    }

-- so many pages fewer at least, and none that was not there
record Fewer (n : ℕ) (s t : S3FifoState) : Type 0 where
  few : pages_in t + n ≤ pages_in s
  fewer : (test : Key → Bool) → count test t ≤ count test s

from_main : (s t : S3FifoState) → FromMain s t → Fewer 0 s t
from_main s t f = let small : t.small ≡ s.small = f.small in let main : length t.main ≤ length s.main - 1 = f.main in let same : length t.small ≡ length s.small = ap length small in record {
  few = omega (arith, same, main);
  fewer = λ test. let k : number test t.small ≡ number test s.small = ap (number test) small in let l : number test t.main ≤ number test s.main = f.fewer test in omega (arith, k, l);
}

from_main_one : (s t : S3FifoState) → FromMain s t → 1 ≤ length s.main → Fewer 1 s t
from_main_one s t f some = let small : t.small ≡ s.small = f.small in let main : length t.main ≤ length s.main - 1 = f.main in let same : length t.small ≡ length s.small = ap length small in record {
  few = omega (arith, same, main, some);
  fewer = λ test. let k : number test t.small ≡ number test s.small = ap (number test) small in let l : number test t.main ≤ number test s.main = f.fewer test in omega (arith, k, l);
}

record Within (s t : S3FifoState) : Type 0 where
  small : t.small ≡ s.small
  fewer : Fewer 0 s t

cuts : (r : S3FifoRooms) (s : S3FifoState) → Within s (main_cut r s)
cuts r s = elim (nat_lt r.main (length s.main)) as (λ b. Within s (cond b (main_turned s) s)) [
  | true ↦ let f : FromMain s (main_turned s) = evicts_main (3 * length s.main) s in record { small = f.small; fewer = from_main s (main_turned s) f }
  | false ↦ record { small = refl; fewer = record { few = omega arith; fewer = λ test. omega arith } }
]

-- a page that goes from S to M
record Up (s t : S3FifoState) : Type 0 where
  small : length t.small + 1 ≡ length s.small
  fewer : Fewer 0 s t

goes_up : (r : S3FifoRooms) (t : Key) (s : S3FifoState) → last_of s.small ≡ Some t → Up s (small_up r (Some t) s)
goes_up r t s is =
    let some : 1 ≤ length s.small = some_last s.small t is in
    let e : length (but_last s.small) ≡ length s.small - 1 = length_but_last s.small in
    let k : length (to_front t s.main) ≤ length s.main + 1 = length_front t s.main in
    let c : Within (record { small = but_last s.small; main = to_front t s.main; ghosts = s.ghosts; freq = moved_freq r.moved t s.freq }) (small_up r (Some t) s) =
    cuts r (record { small = but_last s.small; main = to_front t s.main; ghosts = s.ghosts; freq = moved_freq r.moved t s.freq }) in
    let few : pages_in (small_up r (Some t) s) + 0 ≤ length (but_last s.small) + length (to_front t s.main) = c.fewer.few in
    let small : (small_up r (Some t) s).small ≡ but_last s.small = c.small in
    let same : length (small_up r (Some t) s).small ≡ length (but_last s.small) = ap length small in record {
      small = omega (arith, same, e, some);
      fewer = record {
        few = omega (arith, few, e, some, k);
        fewer = λ test.
            let f : count test (small_up r (Some t) s) ≤ number test (but_last s.small) + number test (to_front t s.main) = c.fewer.fewer test in
            let g : number test (but_last s.small) + cond (test t) 1 0 ≡ number test s.small = last_split test s.small t is in
            let h : number test (to_front t s.main) ≤ number test s.main + cond (test t) 1 0 = number_front test t s.main in omega (arith, f, g, h);
      };
    }

goes_out : (r : S3FifoRooms) (t : Key) (s : S3FifoState) → last_of s.small ≡ Some t → Fewer 1 s (small_out r (Some t) s)
goes_out r t s is =
    let some : 1 ≤ length s.small = some_last s.small t is in
    let e : length (but_last s.small) ≡ length s.small - 1 = length_but_last s.small in record {
      few = omega (arith, e, some);
      fewer = λ test. let f : number test (but_last s.small) ≤ number test s.small = number_but_last test s.small in omega (arith, f);
    }

-- a page left, or S is empty
abbrev Evicts : S3FifoState → S3FifoState → Type 0
Evicts s t = Fewer 1 s t ⊎ (Fewer 0 s t × (length t.small ≡ 0))

after : (s t u : S3FifoState) → Fewer 0 s t → Evicts t u → Evicts s u
after s t u f (inl g) = inl (record {
  few = let x : pages_in t + 0 ≤ pages_in s = f.few in let y : pages_in u + 1 ≤ pages_in t = g.few in omega (arith, x, y);
  fewer = λ test. let x : count test t ≤ count test s = f.fewer test in let y : count test u ≤ count test t = g.fewer test in omega (arith, x, y);
})
after s t u f (inr g) = inr (
  record {
    few = let x : pages_in t + 0 ≤ pages_in s = f.few in let y : pages_in u + 0 ≤ pages_in t = g.0.few in omega (arith, x, y);
    fewer = λ test. let x : count test t ≤ count test s = f.fewer test in let y : count test u ≤ count test t = g.0.fewer test in omega (arith, x, y);
  },
  g.1,
)

itself : (s : S3FifoState) → Fewer 0 s s
itself s = record { few = omega arith; fewer = λ test. omega arith }

evicts_small : (r : S3FifoRooms) (n : ℕ) (s : S3FifoState) → length s.small ≤ n → Evicts s (evicted_small r n s)
evicts_small r zero s few = inr (itself s, omega (arith, few))
evicts_small r (suc n) s few = elim (nat_lt 1 (tail_freq (last_of s.small) s)) as (λ b. nat_lt 1 (tail_freq (last_of s.small) s) ≡ b → Evicts s (cond b (evicted_small r n (small_up r (last_of s.small) s)) (small_out r (last_of s.small) s))) [
  | true ↦ λ h. up (last_of s.small) (evicts_small r n) refl h
  | false ↦ λ h. out (last_of s.small) refl
] refl
  where
    up : (o : Option Key) → ((t : S3FifoState) → length t.small ≤ n → Evicts t (evicted_small r n t)) → last_of s.small ≡ o → nat_lt 1 (tail_freq o s) ≡ true → Evicts s (evicted_small r n (small_up r o s))
    up None more is h = cc
    up (Some t) more is h = let u : Up s (small_up r (Some t) s) = goes_up r t s is in
        after s (small_up r (Some t) s) (evicted_small r n (small_up r (Some t) s)) u.fewer
        (more (small_up r (Some t) s) (let e : length (small_up r (Some t) s).small + 1 ≡ length s.small = u.small in omega (arith, e, few)))

    out : (o : Option Key) → last_of s.small ≡ o → Evicts s (small_out r o s)
    out None is = inr (itself s, none_last s.small is)
    out (Some t) is = inl (goes_out r t s is)

above : (a b : ℕ) → nat_le a b ≡ false → b < a
above a b h = grind (arith, nat_tests)

-- what the shares of m frames are: S has a part of them that is no more than all
record Shared (r : S3FifoRooms) : Type 0 where
  some : 1 ≤ r.frames
  least : 1 ≤ r.hundredths
  most : r.hundredths ≤ 100 * r.frames

evicts_other : (r : S3FifoRooms) (s : S3FifoState) → Shared r → 100 * length s.small < r.hundredths → r.frames ≤ pages_in s → Fewer 1 s (main_turned s)
evicts_other r s shared few full = from_main_one s (main_turned s) (evicts_main (3 * length s.main) s) (let top : r.hundredths ≤ 100 * r.frames = shared.most in omega (arith, few, full, top))

evicts : (r : S3FifoRooms) (s : S3FifoState) → Shared r → r.frames ≤ pages_in s → Evicts s (evicted r s)
evicts r s shared full = elim (nat_le r.hundredths (100 * length s.small)) as (λ b. nat_le r.hundredths (100 * length s.small) ≡ b → Evicts s (cond b (evicted_small r (length s.small) s) (main_turned s))) [
  | true ↦ λ h. evicts_small r (length s.small) s (omega arith)
  | false ↦ λ h. inl (evicts_other r s shared (above r.hundredths (100 * length s.small) h) full)
] refl

-- where S is empty a page of M leaves
evicts_empty : (r : S3FifoRooms) (s : S3FifoState) → Shared r → length s.small ≡ 0 → r.frames ≤ pages_in s → Fewer 1 s (evicted r s)
evicts_empty r s shared empty full = elim (nat_le r.hundredths (100 * length s.small)) as (λ b. nat_le r.hundredths (100 * length s.small) ≡ b → Fewer 1 s (cond b (evicted_small r (length s.small) s) (main_turned s))) [
  | true ↦ λ h. absurd (let e : r.hundredths ≤ 100 * length s.small = within r.hundredths (100 * length s.small) h in let some : 1 ≤ r.hundredths = shared.least in omega (arith, e, empty, some))
  | false ↦ λ h. evicts_other r s shared (above r.hundredths (100 * length s.small) h) full
] refl
  where
    within : (a b : ℕ) → nat_le a b ≡ true → a ≤ b
    within a b h = grind (arith, nat_tests)

-- room for one page
record Room (m : ℕ) (s t : S3FifoState) : Type 0 where
  few : pages_in t < m
  fewer : (test : Key → Bool) → count test t ≤ count test s

second_try : (r : S3FifoRooms) (s t : S3FifoState) → Shared r → pages_in s ≤ r.frames → Evicts s t → Room r.frames s (cond (nat_lt (pages_in t) r.frames) t (evicted r t))
second_try r s t shared few (inl f) = elim (nat_lt (pages_in t) r.frames) as (λ b. nat_lt (pages_in t) r.frames ≡ b → Room r.frames s (cond b t (evicted r t))) [
  | true ↦ λ h. record { few = less (pages_in t) r.frames h; fewer = f.fewer }
  | false ↦ λ h. absurd (let g : r.frames ≤ pages_in t = most (pages_in t) r.frames h in let k : pages_in t + 1 ≤ pages_in s = f.few in omega (arith, g, k, few))
] refl
second_try r s t shared few (inr f) = elim (nat_lt (pages_in t) r.frames) as (λ b. nat_lt (pages_in t) r.frames ≡ b → Room r.frames s (cond b t (evicted r t))) [
  | true ↦ λ h. record { few = less (pages_in t) r.frames h; fewer = f.0.fewer }
  | false ↦ λ h.
      let g : Fewer 1 t (evicted r t) = evicts_empty r t shared f.1 (most (pages_in t) r.frames h) in
      let x : pages_in (evicted r t) + 1 ≤ pages_in t = g.few in
      let y : pages_in t + 0 ≤ pages_in s = f.0.few in record {
        few = omega (arith, x, y, few);
        fewer = λ test. let x : count test (evicted r t) ≤ count test t = g.fewer test in let y : count test t ≤ count test s = f.0.fewer test in omega (arith, x, y);
      }
] refl

room_is : (r : S3FifoRooms) (s : S3FifoState) → Shared r → pages_in s ≤ r.frames → Room r.frames s (room_made r 2 s)
room_is r s shared few = elim (nat_lt (pages_in s) r.frames) as (λ b. nat_lt (pages_in s) r.frames ≡ b → Room r.frames s (cond b s (room_made r 1 (evicted r s)))) [
  | true ↦ λ h. record { few = less (pages_in s) r.frames h; fewer = λ test. omega arith }
  | false ↦ λ h. second_try r s (evicted r s) shared few (evicts r s shared (most (pages_in s) r.frames h))
] refl

misses_insert : (m : ℕ) (p : Key) (s t : S3FifoState) → false ≡ holds p (pages s) → Room m s t → MayLeave m p (pages s) (pages (inserted p t))
misses_insert m p s t out r = elim (holds p t.ghosts) as (λ b. MayLeave m p (pages s) (pages (cond b (came_back p t) (came p t)))) [
  | true ↦ miss_leaves m p (pages s) (pages (came_back p t)) out (there_second p t.small (to_front p t.main) (front_there p t.main))
      (let e : length (pages (came_back p t)) ≡ pages_in (came_back p t) = size (came_back p t) in
      let l : length (to_front p t.main) ≤ length t.main + 1 = length_front p t.main in
      let f : pages_in t < m = r.few in omega (arith, e, l, f))
      (λ test.
      let e : number test (pages (came_back p t)) ≡ count test (came_back p t) = counted test (came_back p t) in
      let f : number test (pages s) ≡ count test s = counted test s in
      let l : number test (to_front p t.main) ≤ number test t.main + cond (test p) 1 0 = number_front test p t.main in
      let g : count test t ≤ count test s = r.fewer test in omega (arith, e, f, l, g))
  | false ↦ miss_leaves m p (pages s) (pages (came p t)) out (there_first p (to_front p t.small) t.main (front_there p t.small))
      (let e : length (pages (came p t)) ≡ pages_in (came p t) = size (came p t) in
      let l : length (to_front p t.small) ≤ length t.small + 1 = length_front p t.small in
      let f : pages_in t < m = r.few in omega (arith, e, l, f))
      (λ test.
      let e : number test (pages (came p t)) ≡ count test (came p t) = counted test (came p t) in
      let f : number test (pages s) ≡ count test s = counted test s in
      let l : number test (to_front p t.small) ≤ number test t.small + cond (test p) 1 0 = number_front test p t.small in
      let g : count test t ≤ count test s = r.fewer test in omega (arith, e, f, l, g))
]

leaves : (r : S3FifoRooms) (p : Key) (s : S3FifoState) → Shared r → pages_in s ≤ r.frames → MayLeave r.frames p (pages s) (pages (s3_fifo r p s))
leaves r p s shared few = elim (in_s3_fifo p s) as (λ b. in_s3_fifo p s ≡ b → MayLeave r.frames p (pages s) (pages (cond b (used p s) (inserted p (room_made r 2 s))))) [
  | true ↦ λ h. hit_leaves r.frames p (pages s) (pages s) (sym h ∙ found p s) (sym (found p s) ∙ h) (let e : length (pages s) ≡ pages_in s = size s in omega (arith, e, few)) (λ test. omega arith)
  | false ↦ λ h. misses_insert r.frames p s (room_made r 2 s) (sym h ∙ found p s) (room_is r s shared few)
] refl

serves : (r : S3FifoRooms) → Shared r → (p : Key) (s : S3FifoState) → pages_in s ≤ r.frames → Serves r.frames pages (λ s. pages_in s ≤ r.frames) in_s3_fifo p s (s3_fifo r p s)
serves r shared p s few = let l : MayLeave r.frames p (pages s) (pages (s3_fifo r p s)) = leaves r p s shared few in record {
  found = found p s;
  leaves = l;
  lawful_after = let e : length (pages (s3_fifo r p s)) ≡ pages_in (s3_fifo r p s) = size (s3_fifo r p s) in let f : length (pages (s3_fifo r p s)) ≤ r.frames = l.few in omega (arith, e, f);
}

shared_parts : (shares : S3FifoShares) (m : ℕ) → 1 ≤ m → 1 ≤ shares.small → shares.small ≤ 100 → Shared (rooms_of shares m)
shared_parts shares m some least most = record {
  some = some;
  least = let e : m * 1 ≤ m * shares.small = mul-le-mul_left m least in omega (arith, e, some);
  most = let e : m * shares.small ≤ m * 100 = mul-le-mul_left m most in omega (arith, e);
}

pub s3_fifo_played : (shares : S3FifoShares) → 1 ≤ shares.small → shares.small ≤ 100 → IsPlayed (s3_fifo_misses shares)
unfolding s3_fifo_misses
s3_fifo_played shares least most frames string some =
    served_plays frames pages (λ s. pages_in s ≤ frames) in_s3_fifo (s3_fifo (rooms_of shares frames)) (serves (rooms_of shares frames) (shared_parts shares frames some least most))
    (record { small = []; main = []; ghosts = []; freq = λ q. 0 }) string (omega arith)
