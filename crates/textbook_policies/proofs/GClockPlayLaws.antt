-- Generalized CLOCK is a way to serve a string: a proof.
use Rattle.std.specs.Prelude.{◌≡◌, ℕ, zero, suc, ◌+◌, ◌-◌, ◌*◌, ◌≤◌, ◌<◌, Bool, true, false, cond, nat_lt, min, List, [], length, Option, Some, None, refl}
use Rattle.std.proofs.Common.{arith, sym}
use Rattle.clock_policy.specs.declared.key.Key.{Key}
use Rattle.page_policies.specs.Strings.{holds}
use Rattle.page_policies.specs.Ordered.{to_front, last_of, but_last}
use Rattle.page_policies.specs.Demand.{number, MayLeave, IsPlayed}
use Rattle.page_policies.proofs.NumberLaws.{less, most}
use Rattle.page_policies.proofs.PartLaws.{front_there, number_front, length_front, length_moved, number_moved, length_but_last, number_but_last, last_there, hit_leaves, miss_leaves, Serves, served_plays}
use Rattle.textbook_policies.specs.declared.g_clock_counts.GClockCounts.{GClockCounts}
use Rattle.textbook_policies.specs.GClock.{GClockState, hand_count, passed, gone, swept, room_made, came, used, in_g_clock, g_clock, g_clock_misses}

-- a page fewer, where there is one, and none that was not there
record Out (s t : GClockState) : Type 0 where
  few : length t.pages ≤ length s.pages - 1
  fewer : (test : Key → Bool) → number test t.pages ≤ number test s.pages

goes : (s : GClockState) → Out s (gone s)
goes s = let e : length (but_last s.pages) ≡ length s.pages - 1 = length_but_last s.pages in record { few = omega (arith, e); fewer = λ test. number_but_last test s.pages }

-- the same pages
record Same (s t : GClockState) : Type 0 where
  size : length t.pages ≡ length s.pages
  same : (test : Key → Bool) → number test t.pages ≡ number test s.pages

passes : (o : Option Key) (s : GClockState) → last_of s.pages ≡ o → Same s (passed o s)
passes None s is = record { size = refl; same = λ test. refl }
passes (Some q) s is = let there : holds q s.pages ≡ true = last_there s.pages q is in record { size = length_moved q s.pages there; same = λ test. number_moved test q s.pages there }

sweeps : (n : ℕ) (s : GClockState) → Out s (swept n s)
sweeps zero s = goes s
sweeps (suc n) s = elim (nat_lt 0 (hand_count (last_of s.pages) s)) as (λ b. Out s (cond b (swept n (passed (last_of s.pages) s)) (gone s))) [
  | true ↦ both (passed (last_of s.pages) s) (swept n (passed (last_of s.pages) s)) (passes (last_of s.pages) s refl) (sweeps n (passed (last_of s.pages) s))
  | false ↦ goes s
]
  where
    both : (t u : GClockState) → Same s t → Out t u → Out s u
    both t u a f = record {
      few = let x : length t.pages ≡ length s.pages = a.size in let y : length u.pages ≤ length t.pages - 1 = f.few in omega (arith, x, y);
      fewer = λ test. let x : number test t.pages ≡ number test s.pages = a.same test in let y : number test u.pages ≤ number test t.pages = f.fewer test in omega (arith, x, y);
    }

-- room for one page
record Room (m : ℕ) (s t : GClockState) : Type 0 where
  few : length t.pages < m
  fewer : (test : Key → Bool) → number test t.pages ≤ number test s.pages

room_is : (m k : ℕ) (s : GClockState) → 1 ≤ m → length s.pages ≤ m → Room m s (room_made m k s)
room_is m k s some few = elim (nat_lt (length s.pages) m) as (λ b. nat_lt (length s.pages) m ≡ b → Room m s (cond b s (swept (k * length s.pages) s))) [
  | true ↦ λ h. record { few = less (length s.pages) m h; fewer = λ test. omega arith }
  | false ↦ λ h. let o : Out s (swept (k * length s.pages) s) = sweeps (k * length s.pages) s in record {
    few = let f : length (swept (k * length s.pages) s).pages ≤ length s.pages - 1 = o.few in omega (arith, f, few, some);
    fewer = o.fewer;
  }
] refl

leaves : (m : ℕ) (counts : GClockCounts) (p : Key) (s : GClockState) → 1 ≤ m → length s.pages ≤ m → MayLeave m p s.pages (g_clock m counts p s).pages
leaves m counts p s some few = elim (holds p s.pages) as (λ b. holds p s.pages ≡ b → MayLeave m p s.pages (let t : GClockState = cond b (used counts.most p s) (came (min counts.first counts.most) p (room_made m counts.most s)) in t).pages) [
  | true ↦ λ h. hit_leaves m p s.pages s.pages (sym h) h few (λ test. omega arith)
  | false ↦ λ h. let r : Room m s (room_made m counts.most s) = room_is m counts.most s some few in
      miss_leaves m p s.pages (to_front p (room_made m counts.most s).pages) (sym h) (front_there p (room_made m counts.most s).pages)
      (let f : length (room_made m counts.most s).pages < m = r.few in
      let l : length (to_front p (room_made m counts.most s).pages) ≤ length (room_made m counts.most s).pages + 1 = length_front p (room_made m counts.most s).pages in omega (arith, f, l))
      (λ test.
      let f : number test (room_made m counts.most s).pages ≤ number test s.pages = r.fewer test in
      let l : number test (to_front p (room_made m counts.most s).pages) ≤ number test (room_made m counts.most s).pages + cond (test p) 1 0 = number_front test p (room_made m counts.most s).pages in omega (arith, f, l))
] refl

serves : (m : ℕ) (counts : GClockCounts) → 1 ≤ m → (p : Key) (s : GClockState) → length s.pages ≤ m → Serves m (λ s. s.pages) (λ s. length s.pages ≤ m) in_g_clock p s (g_clock m counts p s)
serves m counts some p s few = let l : MayLeave m p s.pages (g_clock m counts p s).pages = leaves m counts p s some few in record { found = refl; leaves = l; lawful_after = l.few }

pub g_clock_played : (counts : GClockCounts) → IsPlayed (g_clock_misses counts)
unfolding g_clock_misses
g_clock_played counts frames string some =
    served_plays frames (λ s. s.pages) (λ s. length s.pages ≤ frames) in_g_clock (g_clock frames counts) (serves frames counts some) (record { pages = []; count = λ q. 0 }) string (omega arith)
