-- WSClock is a way to serve a string: a proof.
use Rattle.std.specs.Prelude.{◌≡◌, ℕ, zero, suc, ◌+◌, ◌-◌, ◌<◌, ◌≤◌, Bool, true, false, cond, nat_lt, [], length, Option, Some, None, refl}
use Rattle.std.proofs.Common.{arith, sym, ◌∙◌}
use Rattle.clock_policy.specs.declared.key.Key.{Key}
use Rattle.page_policies.specs.Strings.{holds}
use Rattle.page_policies.specs.Ordered.{to_front, last_of, but_last}
use Rattle.page_policies.specs.Demand.{number, MayLeave}
use Rattle.page_policies.proofs.NumberLaws.{less}
use Rattle.page_policies.proofs.PartLaws.{front_there, number_front, length_front, length_moved, number_moved, length_but_last, number_but_last, last_there, hit_leaves, miss_leaves, Serves}
use Rattle.ticked_policies.specs.declared.hand_step.HandStep.{HandStep}
use Rattle.ticked_policies.specs.declared.hand_step.HandStep.TheVariants.{Passes, Writes, Finds}
use Rattle.ticked_policies.specs.declared.page_use.PageUse.{PageUse}
use Rattle.ticked_policies.specs.declared.working_set_time.WorkingSetTime.{WorkingSetTime}
use Rattle.ticked_policies.specs.Uses.{AreWritesPlayed}
use Rattle.ticked_policies.specs.WsClock.{WsClockState, after_first, after_second, at_next, came, gone, hand_step, in_ws_clock, is_changed, moved_on, passed, room_made, sought, tau_of, turned, turned_by, unmarked, used_again, ws_clock, ws_clock_at, ws_clock_misses}
use Rattle.ticked_policies.proofs.UsesPlayLaws.{uses_played}

-- the same pages
record Same (s t : WsClockState) : Type 0 where
  size : length t.pages ≡ length s.pages
  same : (test : Key → Bool) → number test t.pages ≡ number test s.pages

alike : (s : WsClockState) → Same s s
alike s = record { size = refl; same = λ test. refl }

both : (s t u : WsClockState) → Same s t → Same t u → Same s u
both s t u a b = record { size = b.size ∙ a.size; same = λ test. b.same test ∙ a.same test }

passes : (tau : ℕ) (o : Option Key) (s : WsClockState) → last_of s.pages ≡ o → Same s (passed tau o s)
passes tau None s is = alike s
passes tau (Some q) s is = let there : holds q s.pages ≡ true = last_there s.pages q is in record { size = length_moved q s.pages there; same = λ test. number_moved test q s.pages there }

moves : (o : Option Key) (s : WsClockState) → last_of s.pages ≡ o → Same s (moved_on o s)
moves None s is = alike s
moves (Some q) s is = let there : holds q s.pages ≡ true = last_there s.pages q is in record { size = length_moved q s.pages there; same = λ test. number_moved test q s.pages there }

turns : (n tau : ℕ) (so_far : HandStep) (s : WsClockState) → Same s (turned n tau so_far s).1
turns zero tau so_far s = alike s
turns (suc n) tau so_far s = by_step (hand_step tau (last_of s.pages) s) (turns n tau so_far (passed tau (last_of s.pages) s)) (turns n tau Writes (passed tau (last_of s.pages) s))
  where
    by_step : (step : HandStep) → Same (passed tau (last_of s.pages) s) (turned n tau so_far (passed tau (last_of s.pages) s)).1 → Same (passed tau (last_of s.pages) s) (turned n tau Writes (passed tau (last_of s.pages) s)).1
        → Same s (turned_by step (turned n tau) tau so_far s).1
    by_step Passes a b = both s (passed tau (last_of s.pages) s) (turned n tau so_far (passed tau (last_of s.pages) s)).1 (passes tau (last_of s.pages) s refl) a
    by_step Writes a b = both s (passed tau (last_of s.pages) s) (turned n tau Writes (passed tau (last_of s.pages) s)).1 (passes tau (last_of s.pages) s refl) b
    by_step Finds a b = alike s

seeks : (n : ℕ) (s : WsClockState) → Same s (sought n s)
seeks zero s = alike s
seeks (suc n) s = elim (is_changed (last_of s.pages) s) as (λ b. Same s (cond b (sought n (moved_on (last_of s.pages) s)) s)) [
  | true ↦ both s (moved_on (last_of s.pages) s) (sought n (moved_on (last_of s.pages) s)) (moves (last_of s.pages) s refl) (seeks n (moved_on (last_of s.pages) s))
  | false ↦ alike s
]

second : (n : ℕ) (s : WsClockState) (end : HandStep × WsClockState) → Same s end.1 → Same s (after_second n end)
second n s (Passes, t) a = both s t (sought n t) a (seeks n t)
second n s (Writes, t) a = both s t (sought n t) a (seeks n t)
second n s (Finds, t) a = a

first : (n tau : ℕ) (s : WsClockState) (end : HandStep × WsClockState) → Same s end.1 → Same s (after_first n tau end)
first n tau s (Passes, t) a = both s t (sought n t) a (seeks n t)
first n tau s (Writes, t) a = second n s (turned n tau Passes t) (both s t (turned n tau Passes t).1 a (turns n tau Passes t))
first n tau s (Finds, t) a = a

-- room for one page
record Room (m : ℕ) (s t : WsClockState) : Type 0 where
  few : length t.pages < m
  fewer : (test : Key → Bool) → number test t.pages ≤ number test s.pages

goes : (m : ℕ) (s t : WsClockState) → 1 ≤ m → length s.pages ≤ m → Same s t → Room m s (gone t)
goes m s t some few a = record {
  few = let e : length (but_last t.pages) ≡ length t.pages - 1 = length_but_last t.pages in let x : length t.pages ≡ length s.pages = a.size in omega (arith, e, x, some, few);
  fewer = λ test. let e : number test (but_last t.pages) ≤ number test t.pages = number_but_last test t.pages in let x : number test t.pages ≡ number test s.pages = a.same test in omega (arith, e, x);
}

room_is : (m tau : ℕ) (s : WsClockState) → 1 ≤ m → length s.pages ≤ m → Room m s (room_made m tau s)
room_is m tau s some few =
    let n = length s.pages in
    elim (nat_lt (length s.pages) m) as (λ b. nat_lt (length s.pages) m ≡ b → Room m s (cond b s (gone (after_first n tau (turned n tau Passes s))))) [
      | true ↦ λ h. record { few = less (length s.pages) m h; fewer = λ test. omega arith }
      | false ↦ λ h. goes m s (after_first n tau (turned n tau Passes s)) some few (first n tau s (turned n tau Passes s) (turns n tau Passes s))
    ] refl

leaves : (m tau : ℕ) (r : PageUse) (s : WsClockState) → 1 ≤ m → length s.pages ≤ m → MayLeave m r.page s.pages (ws_clock_at m tau r s).pages
leaves m tau r s some few = elim (holds r.page s.pages) as (λ b. holds r.page s.pages ≡ b → MayLeave m r.page s.pages (let t : WsClockState = cond b (used_again r s) (came r (room_made m tau s)) in t).pages) [
  | true ↦ λ h. hit_leaves m r.page s.pages s.pages (sym h) h few (λ test. omega arith)
  | false ↦ λ h. let room : Room m s (room_made m tau s) = room_is m tau s some few in
      miss_leaves m r.page s.pages (to_front r.page (room_made m tau s).pages) (sym h) (front_there r.page (room_made m tau s).pages)
      (let f : length (room_made m tau s).pages < m = room.few in
      let l : length (to_front r.page (room_made m tau s).pages) ≤ length (room_made m tau s).pages + 1 = length_front r.page (room_made m tau s).pages in omega (arith, f, l))
      (λ test.
      let f : number test (room_made m tau s).pages ≤ number test s.pages = room.fewer test in
      let l : number test (to_front r.page (room_made m tau s).pages) ≤ number test (room_made m tau s).pages + cond (test r.page) 1 0 = number_front test r.page (room_made m tau s).pages in omega (arith, f, l))
] refl

serves : (m tau : ℕ) → 1 ≤ m → (r : PageUse) (s : WsClockState) → length s.pages ≤ m → Serves m (λ s. s.pages) (λ s. length s.pages ≤ m) in_ws_clock r.page s (ws_clock m tau r s)
serves m tau some r s few = let l : MayLeave m r.page s.pages (ws_clock m tau r s).pages = leaves m tau r (at_next s) some few in record { found = refl; leaves = l; lawful_after = l.few }

pub ws_clock_played : (set : WorkingSetTime) → AreWritesPlayed (ws_clock_misses set)
unfolding ws_clock_misses
ws_clock_played set frames string some =
    uses_played frames (λ s. s.pages) (λ s. length s.pages ≤ frames) in_ws_clock (ws_clock frames (tau_of set.tau frames)) (serves frames (tau_of set.tau frames) some) (record { pages = []; marks = λ q. unmarked; time = 0 }) string (omega arith)
