-- The optimum, FIFO and LRU are ways to serve a string: proofs.
use Rattle.std.specs.Prelude.{◌≡◌, ℕ, zero, suc, ◌+◌, ◌≤◌, Bool, true, false, cond, List, [], ◌∷◌, length, take, refl}
use Rattle.std.proofs.Common.{arith, ap}
use Rattle.clock_policy.specs.declared.key.Key.{Key}
use Rattle.page_policies.specs.Strings.{is_page, holds, without, misses}
use Rattle.page_policies.specs.Queues.{fifo, lru, fifo_misses, lru_misses}
use Rattle.page_policies.proofs.QueueLaws.{itself, same}
use Rattle.page_policies.specs.Optimal.{room_for, optimal_from, optimal_misses}
use Rattle.page_policies.specs.Demand.{number, MayLeave, Plays, IsPlayed}
use Rattle.page_policies.proofs.CountLaws.{Room, room_is}
use Rattle.page_policies.proofs.DemandLaws.{room_fewer}

pub here : (p : Key) (s : List Key) → holds p (p ∷ s) ≡ true
here p s = ap (λ (b : Bool). cond b true (holds p s)) (itself p)

-- a hit that changes nothing, and a miss that lets pages go
pub stays : (m : ℕ) (p : Key) (s : List Key) → holds p s ≡ true → length s ≤ m → MayLeave m p s s
stays m p s h few = record { there = h; few = few; from = λ test. rw h (omega arith) }

comes : (m : ℕ) (p : Key) (s r : List Key) → holds p s ≡ false → suc (length r) ≤ m → ((test : Key → Bool) → number test r ≤ number test s) → MayLeave m p s (p ∷ r)
comes m p s r h few from = record { there = here p r; few = few; from = λ test. rw h (let f : number test r ≤ number test s = from test in omega (arith, f)) }

optimal_plays : (m : ℕ) → 1 ≤ m → (s string : List Key) → length s ≤ m → Plays m s string (optimal_from m s string)
optimal_plays m some s [] few = refl
optimal_plays m some s (p ∷ ps) few = elim (holds p s) as (λ b. holds p s ≡ b → Plays m s (p ∷ ps) (cond b (optimal_from m s ps) (1 + optimal_from m (p ∷ room_for m ps s) ps))) [
  | true ↦ λ h. (s, (optimal_from m s ps, (stays m p s h few, (rw h (omega arith), optimal_plays m some s ps few))))
  | false ↦ λ h.
      let room : Room m ps s (room_for m ps s) = room_is m ps s some few in
      (p ∷ room_for m ps s, (optimal_from m (p ∷ room_for m ps s) ps, (comes m p s (room_for m ps s) h room.few (λ test. room_fewer test m ps s), (rw h refl, optimal_plays m some (p ∷ room_for m ps s) ps room.few))))
] refl

pub optimum_played : IsPlayed optimal_misses
unfolding optimal_misses
optimum_played frames string some = optimal_plays frames some [] string (omega arith)

-- the first pages

pub taken_few : (m : ℕ) (s : List Key) → length (take m s) ≤ m
taken_few zero s = omega arith
taken_few (suc m) [] = omega arith
taken_few (suc m) (q ∷ qs) = let later : length (take m qs) ≤ m = taken_few m qs in omega (arith, later)

pub taken_number : (test : Key → Bool) (m : ℕ) (s : List Key) → number test (take m s) ≤ number test s
taken_number test zero s = omega arith
taken_number test (suc m) [] = omega arith
taken_number test (suc m) (q ∷ qs) = let later : number test (take m qs) ≤ number test qs = taken_number test m qs in omega (arith, later)

taken_there : (m : ℕ) (p : Key) (s : List Key) → 1 ≤ m → holds p (take m (p ∷ s)) ≡ true
taken_there zero p s some = absurd (omega (arith, some))
taken_there (suc m) p s some = here p (take m s)

fifo_left : (m : ℕ) (p : Key) (s : List Key) → 1 ≤ m → length s ≤ m → MayLeave m p s (fifo m p s)
fifo_left m p s some few = elim (holds p s) as (λ b. holds p s ≡ b → MayLeave m p s (cond b s (take m (p ∷ s)))) [
  | true ↦ λ h. stays m p s h few
  | false ↦ λ h. record { there = taken_there m p s some; few = taken_few m (p ∷ s); from = λ test. rw h (taken_number test m (p ∷ s)) }
] refl

number_without : (test : Key → Bool) (p : Key) (s : List Key) → number test (p ∷ without p s) ≤ number test (cond (holds p s) s (p ∷ s))
number_without test p [] = omega arith
number_without test p (q ∷ qs) = elim (is_page p q) as (λ b. is_page p q ≡ b → number test (p ∷ cond b qs (q ∷ without p qs)) ≤ number test (cond (cond b true (holds p qs)) (q ∷ qs) (p ∷ q ∷ qs))) [
  | true ↦ λ is. rw (same p q is) (omega arith)
  | false ↦ λ is. either (holds p qs) (number_without test p qs)
] refl
  where
    either : (b : Bool) → number test (p ∷ without p qs) ≤ number test (cond b qs (p ∷ qs)) → number test (p ∷ q ∷ without p qs) ≤ number test (cond b (q ∷ qs) (p ∷ q ∷ qs))
    either true h = omega (arith, h)
    either false h = omega (arith, h)

lru_left : (m : ℕ) (p : Key) (s : List Key) → 1 ≤ m → length s ≤ m → MayLeave m p s (lru m p s)
lru_left m p s some few = record {
  there = taken_there m p (without p s) some;
  few = taken_few m (p ∷ without p s);
  from = λ test.
      let taken : number test (take m (p ∷ without p s)) ≤ number test (p ∷ without p s) = taken_number test m (p ∷ without p s) in
      let from : number test (p ∷ without p s) ≤ number test (cond (holds p s) s (p ∷ s)) = number_without test p s in omega (arith, taken, from);
}

-- what always may be left is a way to serve any string
all_plays : (m : ℕ) (next : Key → List Key → List Key) → ((p : Key) (s : List Key) → length s ≤ m → MayLeave m p s (next p s)) → (s string : List Key) → length s ≤ m → Plays m s string (misses holds next s string)
all_plays m next left s [] few = refl
all_plays m next left s (p ∷ ps) few = (next p s, (misses holds next (next p s) ps, (left p s few, (refl, all_plays m next left (next p s) ps (left p s few).few))))

pub fifo_played : IsPlayed fifo_misses
unfolding fifo_misses
fifo_played frames string some = all_plays frames (fifo frames) (λ p s few. fifo_left frames p s some few) [] string (omega arith)

pub lru_played : IsPlayed lru_misses
unfolding lru_misses
lru_played frames string some = all_plays frames (lru frames) (λ p s few. lru_left frames p s some few) [] string (omega arith)
