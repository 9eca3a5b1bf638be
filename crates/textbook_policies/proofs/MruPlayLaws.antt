-- MRU is a way to serve a string: a proof.
use Rattle.std.specs.Prelude.{◌≡◌, ℕ, suc, ◌+◌, ◌≤◌, ◌<◌, Bool, true, false, cond, nat_lt, List, [], ◌∷◌, length, drop, refl}
use Rattle.std.proofs.Common.{arith, sym}
use Rattle.clock_policy.specs.declared.key.Key.{Key}
use Rattle.page_policies.specs.Strings.{holds}
use Rattle.page_policies.specs.Ordered.{to_front}
use Rattle.page_policies.specs.Demand.{number, MayLeave, IsPlayed}
use Rattle.page_policies.proofs.NumberLaws.{less}
use Rattle.page_policies.proofs.PlayedLaws.{here}
use Rattle.page_policies.proofs.PartLaws.{front_there, number_moved, length_moved, hit_leaves, miss_leaves, Serves, served_plays}
use Rattle.textbook_policies.specs.Mru.{mru, mru_misses, room_made}

-- room for one page
record Room (m : ℕ) (s t : List Key) : Type 0 where
  few : length t < m
  fewer : (test : Key → Bool) → number test t ≤ number test s

room_is : (m : ℕ) (s : List Key) → 1 ≤ m → length s ≤ m → Room m s (room_made m s)
room_is m s some few = elim (nat_lt (length s) m) as (λ b. nat_lt (length s) m ≡ b → Room m s (cond b s (drop 1 s))) [
  | true ↦ λ h. record { few = less (length s) m h; fewer = λ test. omega arith }
  | false ↦ λ h. out s few
] refl
  where
    out : (s : List Key) → length s ≤ m → Room m s (drop 1 s)
    out [] few = record { few = omega (arith, some); fewer = λ test. omega arith }
    out (q ∷ qs) few = record { few = omega (arith, few); fewer = λ test. omega arith }

leaves : (m : ℕ) (p : Key) (s : List Key) → 1 ≤ m → length s ≤ m → MayLeave m p s (mru m p s)
leaves m p s some few = elim (holds p s) as (λ b. holds p s ≡ b → MayLeave m p s (cond b (to_front p s) (p ∷ room_made m s))) [
  | true ↦ λ h. hit_leaves m p s (to_front p s) (sym h) (front_there p s) (let e : length (to_front p s) ≡ length s = length_moved p s h in omega (arith, e, few))
      (λ test. let e : number test (to_front p s) ≡ number test s = number_moved test p s h in omega (arith, e))
  | false ↦ λ h. let r : Room m s (room_made m s) = room_is m s some few in
      miss_leaves m p s (p ∷ room_made m s) (sym h) (here p (room_made m s)) (let f : length (room_made m s) < m = r.few in omega (arith, f))
      (λ test. let f : number test (room_made m s) ≤ number test s = r.fewer test in omega (arith, f))
] refl

serves : (m : ℕ) → 1 ≤ m → (p : Key) (s : List Key) → length s ≤ m → Serves m (λ s. s) (λ s. length s ≤ m) holds p s (mru m p s)
serves m some p s few = let l : MayLeave m p s (mru m p s) = leaves m p s some few in record { found = refl; leaves = l; lawful_after = l.few }

pub mru_played : IsPlayed mru_misses
unfolding mru_misses
mru_played frames string some = served_plays frames (λ s. s) (λ s. length s ≤ frames) holds (mru frames) (serves frames some) [] string (omega arith)
