-- 2Q is a way to serve a string: a proof.
use Rattle.std.specs.Prelude.{◌≡◌, ℕ, ◌+◌, ◌*◌, ◌/◌, ◌-◌, ◌<◌, ◌≤◌, Bool, true, false, cond, nat_lt, List, [], ◌++◌, length, refl}
use Rattle.std.proofs.Common.{arith, sym, ◌∙◌}
use Rattle.std.proofs.Math.Nat.{mul-le-mul_left}
use Rattle.clock_policy.specs.declared.key.Key.{Key}
use Rattle.page_policies.specs.Strings.{holds}
use Rattle.page_policies.specs.Ordered.{to_front, but_last}
use Rattle.page_policies.specs.Demand.{number, MayLeave, IsPlayed}
use Rattle.page_policies.proofs.NumberLaws.{less, most}
use Rattle.page_policies.proofs.PartLaws.{number_append, holds_append, there_first, there_second, length_parts, front_there, number_front, number_moved, length_front, length_moved, length_but_last, number_but_last, hit_leaves, miss_leaves, Serves, served_plays}
use Rattle.younger_policies.specs.declared.two_queue_shares.TwoQueueShares.{TwoQueueShares}
use Rattle.younger_policies.specs.declared.two_queue_shares.TwoQueueRooms.{TwoQueueRooms}
use Rattle.younger_policies.specs.TwoQueues.{TwoQueuesState, rooms_of, recent_out, main_out, reclaimed, came_back, came, brought, used, in_two_queues, two_queues, two_queues_misses}

-- the pages in frames
abbrev pages : TwoQueuesState → List Key
pages s = s.am ++ s.a1in

abbrev room : TwoQueuesState → ℕ
room s = length s.a1in + length s.am

abbrev count : (Key → Bool) → TwoQueuesState → ℕ
count test s = number test s.am + number test s.a1in

found : (p : Key) (s : TwoQueuesState) → in_two_queues p s ≡ holds p (pages s)
found p s = sym (holds_append p s.am s.a1in)

size : (s : TwoQueuesState) → length (pages s) ≡ room s
size s = let e : length (s.am ++ s.a1in) ≡ length s.am + length s.a1in = length_parts s.am s.a1in in omega (arith, e)

counted : (test : Key → Bool) (s : TwoQueuesState) → number test (pages s) ≡ count test s
counted test s = number_append test s.am s.a1in

-- room for one page
record Room (m : ℕ) (s t : TwoQueuesState) : Type 0 where
  few : room t < m
  fewer : (test : Key → Bool) → count test t ≤ count test s

part_below : (m k : ℕ) → 1 ≤ m → k < 100 → m * k / 100 < m
part_below m k some few = let e : m * k ≤ m * 99 = mul-le-mul_left m (omega (arith, few)) in omega (arith, e, some)

room_is : (r : TwoQueueRooms) (s : TwoQueuesState) → r.kin < r.frames → room s ≤ r.frames → Room r.frames s (reclaimed r s)
room_is r s q few = elim (nat_lt (room s) r.frames) as (λ b. nat_lt (room s) r.frames ≡ b → Room r.frames s (cond b s (cond (nat_lt r.kin (length s.a1in)) (recent_out r s) (main_out s)))) [
  | true ↦ λ h. record { few = less (room s) r.frames h; fewer = λ test. omega arith }
  | false ↦ λ h. elim (nat_lt r.kin (length s.a1in)) as (λ b. nat_lt r.kin (length s.a1in) ≡ b → Room r.frames s (cond b (recent_out r s) (main_out s))) [
    | true ↦ λ g. record {
      few = let more : r.kin < length s.a1in = less r.kin (length s.a1in) g in let e : length (but_last s.a1in) ≡ length s.a1in - 1 = length_but_last s.a1in in omega (arith, q, few, more, e);
      fewer = λ test. let e : number test (but_last s.a1in) ≤ number test s.a1in = number_but_last test s.a1in in omega (arith, e);
    }
    | false ↦ λ g. record {
      few = let k : length s.a1in ≤ r.kin = most r.kin (length s.a1in) g in let f : r.frames ≤ room s = most (room s) r.frames h in
          let e : length (but_last s.am) ≡ length s.am - 1 = length_but_last s.am in sums r.frames r.kin (length s.a1in) (length s.am) (length (but_last s.am)) few k q f e;
      fewer = λ test. let e : number test (but_last s.am) ≤ number test s.am = number_but_last test s.am in omega (arith, e);
    }
  ] refl
] refl
  where
    sums : (m k a b c : ℕ) → a + b ≤ m → a ≤ k → k < m → m ≤ a + b → c ≡ b - 1 → a + c < m
    sums m k a b c few some q f e = omega (arith, few, some, q, f, e)

miss : (r : TwoQueueRooms) (p : Key) (s : TwoQueuesState) → r.kin < r.frames → room s ≤ r.frames → false ≡ in_two_queues p s → MayLeave r.frames p (pages s) (pages (brought r p s))
miss r p s q few out = let made : Room r.frames s (reclaimed r s) = room_is r s q few in
    elim (holds p s.a1out) as (λ b. MayLeave r.frames p (pages s) (pages (cond b (came_back p (reclaimed r s)) (came p (reclaimed r s))))) [
      | true ↦ miss_leaves r.frames p (pages s) (pages (came_back p (reclaimed r s))) (out ∙ found p s) (there_first p (to_front p (reclaimed r s).am) (reclaimed r s).a1in (front_there p (reclaimed r s).am))
          (let e : length (pages (came_back p (reclaimed r s))) ≡ room (came_back p (reclaimed r s)) = size (came_back p (reclaimed r s)) in
          let l : length (to_front p (reclaimed r s).am) ≤ length (reclaimed r s).am + 1 = length_front p (reclaimed r s).am in
          let f : room (reclaimed r s) < r.frames = made.few in omega (arith, e, l, f))
          (λ test.
          let e : number test (pages (came_back p (reclaimed r s))) ≡ count test (came_back p (reclaimed r s)) = counted test (came_back p (reclaimed r s)) in
          let f : number test (pages s) ≡ count test s = counted test s in
          let l : number test (to_front p (reclaimed r s).am) ≤ number test (reclaimed r s).am + cond (test p) 1 0 = number_front test p (reclaimed r s).am in
          let g : count test (reclaimed r s) ≤ count test s = made.fewer test in omega (arith, e, f, l, g))
      | false ↦ miss_leaves r.frames p (pages s) (pages (came p (reclaimed r s))) (out ∙ found p s) (there_second p (reclaimed r s).am (to_front p (reclaimed r s).a1in) (front_there p (reclaimed r s).a1in))
          (let e : length (pages (came p (reclaimed r s))) ≡ room (came p (reclaimed r s)) = size (came p (reclaimed r s)) in
          let l : length (to_front p (reclaimed r s).a1in) ≤ length (reclaimed r s).a1in + 1 = length_front p (reclaimed r s).a1in in
          let f : room (reclaimed r s) < r.frames = made.few in omega (arith, e, l, f))
          (λ test.
          let e : number test (pages (came p (reclaimed r s))) ≡ count test (came p (reclaimed r s)) = counted test (came p (reclaimed r s)) in
          let f : number test (pages s) ≡ count test s = counted test s in
          let l : number test (to_front p (reclaimed r s).a1in) ≤ number test (reclaimed r s).a1in + cond (test p) 1 0 = number_front test p (reclaimed r s).a1in in
          let g : count test (reclaimed r s) ≤ count test s = made.fewer test in omega (arith, e, f, l, g))
    ]

hit : (m : ℕ) (p : Key) (s : TwoQueuesState) → room s ≤ m → true ≡ in_two_queues p s → MayLeave m p (pages s) (pages (used p s))
hit m p s few is = elim (holds p s.am) as (λ b. holds p s.am ≡ b → MayLeave m p (pages s) (pages (cond b (record { a1in = s.a1in; a1out = s.a1out; am = to_front p s.am }) s))) [
  | true ↦ λ h. hit_leaves m p (pages s) (to_front p s.am ++ s.a1in) (is ∙ found p s) (there_first p (to_front p s.am) s.a1in (front_there p s.am))
      (let e : length (to_front p s.am ++ s.a1in) ≡ length (to_front p s.am) + length s.a1in = length_parts (to_front p s.am) s.a1in in
      let l : length (to_front p s.am) ≡ length s.am = length_moved p s.am h in omega (arith, e, l, few))
      (λ test.
      let e : number test (to_front p s.am ++ s.a1in) ≡ number test (to_front p s.am) + number test s.a1in = number_append test (to_front p s.am) s.a1in in
      let f : number test (pages s) ≡ count test s = counted test s in
      let l : number test (to_front p s.am) ≡ number test s.am = number_moved test p s.am h in omega (arith, e, f, l))
  | false ↦ λ h. hit_leaves m p (pages s) (pages s) (is ∙ found p s) (sym (is ∙ found p s)) (let e : length (pages s) ≡ room s = size s in omega (arith, e, few)) (λ test. omega arith)
] refl

leaves : (r : TwoQueueRooms) (p : Key) (s : TwoQueuesState) → r.kin < r.frames → room s ≤ r.frames → MayLeave r.frames p (pages s) (pages (two_queues r p s))
leaves r p s q few = elim (in_two_queues p s) as (λ b. b ≡ in_two_queues p s → MayLeave r.frames p (pages s) (pages (cond b (used p s) (brought r p s)))) [
  | true ↦ λ is. hit r.frames p s few is
  | false ↦ λ is. miss r p s q few is
] refl

serves : (r : TwoQueueRooms) → r.kin < r.frames → (p : Key) (s : TwoQueuesState) → room s ≤ r.frames → Serves r.frames pages (λ s. room s ≤ r.frames) in_two_queues p s (two_queues r p s)
serves r q p s few = let l : MayLeave r.frames p (pages s) (pages (two_queues r p s)) = leaves r p s q few in record {
  found = found p s;
  leaves = l;
  lawful_after = let e : length (pages (two_queues r p s)) ≡ room (two_queues r p s) = size (two_queues r p s) in let f : length (pages (two_queues r p s)) ≤ r.frames = l.few in omega (arith, e, f);
}

pub two_queues_played : (shares : TwoQueueShares) → shares.kin < 100 → IsPlayed (two_queues_misses shares)
unfolding two_queues_misses
two_queues_played shares few frames string some =
    served_plays frames pages (λ s. room s ≤ frames) in_two_queues (two_queues (rooms_of shares frames)) (serves (rooms_of shares frames) (part_below frames shares.kin some few)) (record { a1in = []; a1out = []; am = [] }) string (omega arith)
