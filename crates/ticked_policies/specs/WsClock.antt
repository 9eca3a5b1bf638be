-- WSClock (Andrew S. Tanenbaum and Herbert Bos, "Modern Operating Systems", 4th edition, 3.4.9; Richard W. Carr and John L. Hennessy,
-- "WSCLOCK: A Simple and Effective Algorithm for Virtual Memory Management", SOSP 1981). Time is the number of the reference. At a page
-- with R the hand clears R and notes the time. A page whose time is older than tau leaves if it is not changed; a changed one is
-- written, and is not changed by the hand's next turn. After a turn that had pages written comes another. Where all pages are in the
-- working set, the first leaves that is not changed, from the hand on, or else the page at the hand.
use Rattle.std.specs.Prelude.{ℕ, zero, suc, ◌+◌, ◌-◌, ◌*◌, ◌^◌, Bool, true, false, cond, nat_lt, min, List, [], length, Option, Some, None}
use Rattle.std.specs.HashMap.{get}
use Rattle.clock_policy.specs.declared.key.Key.{Key}
use Rattle.ticked_policies.specs.declared.page_use.PageUse.{PageUse}
use Rattle.page_policies.specs.Strings.{is_page, holds}
use Rattle.page_policies.specs.Ordered.{to_front, last_of, but_last}
use Rattle.ticked_policies.specs.declared.marks.Marks.{Marks}
use Rattle.ticked_policies.specs.declared.hand_step.HandStep.{HandStep}
use Rattle.ticked_policies.specs.declared.hand_step.HandStep.TheVariants.{Passes, Writes, Finds}
use Rattle.ticked_policies.specs.declared.working_set_time.WorkingSetTime.{WorkingSetTime}
use Rattle.ticked_policies.specs.declared.ws_clock.WsClock.{WsClock}
use Rattle.ticked_policies.specs.Framed.{fresh, used_by}
use Rattle.ticked_policies.specs.Uses.{misses}

-- The pages: the one at the hand is last, and the one that the hand reaches last is first. Their marks, with the time of the last use that
-- the hand knows. How many references have come.
pub record WsClockState : Type 0 where
  pub pages : List Key
  pub marks : Key → Marks
  pub time : ℕ

abbrev pub unmarked : Marks
unmarked = record { used = false; changed = false; number = 0 }

abbrev pub with_marks : Key → Marks → (Key → Marks) → Key → Marks
with_marks p m marks q = cond (is_page p q) m (marks q)

-- what the hand does at a page: it passes, it has the page written and passes, or it finds the page that leaves
abbrev pub step_at : ℕ → ℕ → Marks → HandStep
step_at tau now m = cond m.used Passes (cond (nat_lt tau (now - m.number)) (cond m.changed Writes Finds) Passes)

-- the marks of a page that the hand has passed
abbrev pub seen : ℕ → ℕ → Marks → Marks
seen tau now m = cond m.used (record { used = false; changed = m.changed; number = now })
    (cond (nat_lt tau (now - m.number)) (record { used = false; changed = false; number = m.number }) m)

abbrev pub hand_step : ℕ → Option Key → WsClockState → HandStep
hand_step tau None s = Finds
hand_step tau (Some q) s = step_at tau s.time (s.marks q)

-- the hand passes a page
abbrev pub passed : ℕ → Option Key → WsClockState → WsClockState
passed tau None s = s
passed tau (Some q) s = record { pages = to_front q s.pages; marks = with_marks q (seen tau s.time (s.marks q)) s.marks; time = s.time }

abbrev pub finds : HandStep → Bool
finds Passes = false
finds Writes = false
finds Finds = true

-- what a turn has come to: whether it wrote pages, or found the one that leaves
abbrev pub ends_as : HandStep → HandStep → HandStep
ends_as Passes so_far = so_far
ends_as Writes so_far = Writes
ends_as Finds so_far = Finds

-- A turn that has so many steps to go ends where it finds a page: what it has come to, and what it leaves.
abbrev pub turned_by : HandStep → (HandStep → WsClockState → HandStep × WsClockState) → ℕ → HandStep → WsClockState → HandStep × WsClockState
turned_by Passes on tau so_far s = on so_far (passed tau (last_of s.pages) s)
turned_by Writes on tau so_far s = on Writes (passed tau (last_of s.pages) s)
turned_by Finds on tau so_far s = (Finds, s)

abbrev pub turned : ℕ → ℕ → HandStep → WsClockState → HandStep × WsClockState
turned zero tau so_far s = (so_far, s)
turned (suc n) tau so_far s = turned_by (hand_step tau (last_of s.pages) s) (turned n tau) tau so_far s

-- the hand passes changed pages, so many at most
abbrev pub is_changed : Option Key → WsClockState → Bool
is_changed None s = false
is_changed (Some q) s = (s.marks q).changed

abbrev pub moved_on : Option Key → WsClockState → WsClockState
moved_on None s = s
moved_on (Some q) s = record { pages = to_front q s.pages; marks = s.marks; time = s.time }

abbrev pub sought : ℕ → WsClockState → WsClockState
sought zero s = s
sought (suc n) s = cond (is_changed (last_of s.pages) s) (sought n (moved_on (last_of s.pages) s)) s

-- what the second turn leaves, and the first
abbrev pub after_second : ℕ → HandStep × WsClockState → WsClockState
after_second n (Passes, s) = sought n s
after_second n (Writes, s) = sought n s
after_second n (Finds, s) = s

abbrev pub after_first : ℕ → ℕ → HandStep × WsClockState → WsClockState
after_first n tau (Passes, s) = sought n s
after_first n tau (Writes, s) = after_second n (turned n tau Passes s)
after_first n tau (Finds, s) = s

-- the page at the hand leaves, and has no marks any more
abbrev pub forgotten : Option Key → (Key → Marks) → Key → Marks
forgotten None marks = marks
forgotten (Some q) marks = with_marks q unmarked marks

abbrev pub gone : WsClockState → WsClockState
gone s = record { pages = but_last s.pages; marks = forgotten (last_of s.pages) s.marks; time = s.time }

-- room for one page
abbrev pub room_made : ℕ → ℕ → WsClockState → WsClockState
room_made m tau s = cond (nat_lt (length s.pages) m) s (gone (after_first (length s.pages) tau (turned (length s.pages) tau Passes s)))

-- a page comes in, where the hand comes last
abbrev pub came : PageUse → WsClockState → WsClockState
came r s = record { pages = to_front r.page s.pages; marks = with_marks r.page (fresh r.is_written s.time) s.marks; time = s.time }

abbrev pub used_again : PageUse → WsClockState → WsClockState
used_again r s = record { pages = s.pages; marks = with_marks r.page (used_by r.is_written (s.marks r.page)) s.marks; time = s.time }

abbrev pub in_ws_clock : Key → WsClockState → Bool
in_ws_clock p s = holds p s.pages

-- one reference more
abbrev pub at_next : WsClockState → WsClockState
at_next s = record { pages = s.pages; marks = s.marks; time = min (s.time + 1) (2 ^ 64 - 1) }

abbrev pub ws_clock_at : ℕ → ℕ → PageUse → WsClockState → WsClockState
ws_clock_at m tau r s = cond (in_ws_clock r.page s) (used_again r s) (came r (room_made m tau s))

abbrev pub ws_clock : ℕ → ℕ → PageUse → WsClockState → WsClockState
ws_clock m tau r s = ws_clock_at m tau r (at_next s)

-- as old as is asked for, or twice as many references as there are frames
abbrev pub tau_of : Option ℕ → ℕ → ℕ
tau_of None m = 2 * m
tau_of (Some tau) m = tau

unfoldable pub ws_clock_misses : WorkingSetTime → ℕ → List PageUse → ℕ
ws_clock_misses set m string = misses in_ws_clock (ws_clock m (tau_of set.tau m)) (record { pages = []; marks = λ q. unmarked; time = 0 }) string

-- the counter as this definition sees it
abbrev pub marked : Option Marks → Marks
marked None = unmarked
marked (Some m) = m

abbrev pub circle_of : WsClock → WsClockState
circle_of s = record { pages = s.pages; marks = λ q. marked (get is_page s.marks q); time = s.time }
