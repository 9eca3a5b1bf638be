-- Generalized CLOCK, in which a page has a count in place of a mark: Alan Jay Smith, "Sequentiality and Prefetching in Database Systems",
-- ACM Transactions on Database Systems 3(3), 1978, where it is named GCLOCK; Victor F. Nicola, Asit Dan and Daniel M. Dias, "Analysis of the
-- Generalized Clock Buffer Replacement Scheme for Database Transaction Processing", SIGMETRICS 1992, section 1. A page comes in with a
-- first count, each use adds one, up to the most, and the hand passes a page whose count is not 0, which then falls by one. With n bits
-- the most is 2^n - 1; with one bit and a first count of one it is CLOCK.
use Rattle.std.specs.Prelude.{ℕ, zero, suc, ◌+◌, ◌-◌, ◌*◌, Bool, cond, nat_lt, min, List, [], length, Option, Some, None}
use Rattle.std.specs.HashMap.{get}
use Rattle.clock_policy.specs.declared.key.Key.{Key}
use Rattle.page_policies.specs.Strings.{is_page, holds, misses}
use Rattle.page_policies.specs.Ordered.{to_front, last_of, but_last}
use Rattle.page_policies.specs.NextUses.{known}
use Rattle.textbook_policies.specs.declared.g_clock_counts.GClockCounts.{GClockCounts}
use Rattle.textbook_policies.specs.declared.g_clock.GClock.{GClock}

-- The pages and their counts. The page at the hand is last, and the page that the hand reaches last is first.
pub record GClockState : Type 0 where
  pub pages : List Key
  pub count : Key → ℕ

abbrev pub usual_counts : GClockCounts
usual_counts = record { most = 3; first = 1 }

-- the page's count becomes n
abbrev pub with_count : Key → ℕ → (Key → ℕ) → Key → ℕ
with_count p n count q = cond (is_page p q) n (count q)

-- the count of the page at the hand
abbrev pub hand_count : Option Key → GClockState → ℕ
hand_count None s = 0
hand_count (Some q) s = s.count q

-- the hand passes a page, whose count falls
abbrev pub passed : Option Key → GClockState → GClockState
passed None s = s
passed (Some q) s = record { pages = to_front q s.pages; count = with_count q (s.count q - 1) s.count }

-- the page at the hand leaves
abbrev pub gone : GClockState → GClockState
gone s = record { pages = but_last s.pages; count = s.count }

-- Pages with a count are passed, so many at most, and then the page at the hand leaves.
abbrev pub swept : ℕ → GClockState → GClockState
swept zero s = gone s
swept (suc n) s = cond (nat_lt 0 (hand_count (last_of s.pages) s)) (swept n (passed (last_of s.pages) s)) (gone s)

-- Room for one page: no count is above the most, so that as many turns a page are enough.
abbrev pub room_made : ℕ → ℕ → GClockState → GClockState
room_made m most s = cond (nat_lt (length s.pages) m) s (swept (most * length s.pages) s)

-- a page comes in, where the hand comes last
abbrev pub came : ℕ → Key → GClockState → GClockState
came n p s = record { pages = to_front p s.pages; count = with_count p n s.count }

abbrev pub used : ℕ → Key → GClockState → GClockState
used most p s = record { pages = s.pages; count = with_count p (min (s.count p + 1) most) s.count }

abbrev pub in_g_clock : Key → GClockState → Bool
in_g_clock p s = holds p s.pages

abbrev pub g_clock : ℕ → GClockCounts → Key → GClockState → GClockState
g_clock m counts p s = cond (in_g_clock p s) (used counts.most p s) (came (min counts.first counts.most) p (room_made m counts.most s))

unfoldable pub g_clock_misses : GClockCounts → ℕ → List Key → ℕ
g_clock_misses counts m string = misses in_g_clock (g_clock m counts) (record { pages = []; count = λ q. 0 }) string

-- the counter as this definition sees it
abbrev pub circle_of : GClock → GClockState
circle_of s = record { pages = s.pages; count = λ q. known (get is_page s.count q) }
