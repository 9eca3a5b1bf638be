-- Least frequently used: the page leaves that was used least since it came in, and of equals the one that came in first (Abraham
-- Silberschatz, Peter Baer Galvin and Greg Gagne, "Operating System Concepts", 10th edition, 10.4.6; it does not say which of equals).
use Rattle.std.specs.Prelude.{ℕ, List, [], Option, Some, None, Bool}
use Rattle.clock_policy.specs.declared.key.Key.{Key}
use Rattle.page_policies.specs.Strings.{misses}
use Rattle.textbook_policies.specs.declared.ranked.Ranked.{Ranked}
use Rattle.textbook_policies.specs.declared.lfu.Lfu.{Lfu}
use Rattle.textbook_policies.specs.Ranks.{ranked, rank_in, holds_ranked, unranked, placed, room_made, next_number}

-- The pages, ranked by their uses, and of as many by when they came in; and how many have come in.
pub record LfuState : Type 0 where
  pub pages : List Ranked
  pub comings : ℕ

-- one use more
abbrev pub used_more : Key → Ranked → Ranked
used_more p r = ranked (next_number r.first) r.second p

-- a page is used that is there, or comes in
abbrev pub lfu_by : Option Ranked → ℕ → Key → LfuState → LfuState
lfu_by None m p s = record { pages = placed (ranked 1 s.comings p) (room_made m s.pages); comings = next_number s.comings }
lfu_by (Some r) m p s = record { pages = placed (used_more p r) (unranked p s.pages); comings = s.comings }

abbrev pub lfu : ℕ → Key → LfuState → LfuState
lfu m p s = lfu_by (rank_in p s.pages) m p s

abbrev pub in_lfu : Key → LfuState → Bool
in_lfu p s = holds_ranked p s.pages

unfoldable pub lfu_misses : ℕ → List Key → ℕ
lfu_misses m string = misses in_lfu (lfu m) (record { pages = []; comings = 0 }) string

-- the counter as this definition sees it
abbrev pub ranks_of : Lfu → LfuState
ranks_of s = record { pages = s.pages; comings = s.comings }
