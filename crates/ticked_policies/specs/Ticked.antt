-- Policies that go by the clock's interrupts: after every so many references comes a tick.
--
-- Not recently used, NRU (Andrew S. Tanenbaum and Herbert Bos, "Modern Operating Systems", 4th edition, 3.4.2): a tick clears R. A page
-- leaves of the lowest class that is not empty, of 0 (not used, not changed), 1 (not used, changed), 2 (used, not changed) and 3 (used,
-- changed). The book draws one of a class; here it is the one in the first frame.
--
-- Aging (3.4.7): at a tick each counter is shifted right by one bit, R is added to its leftmost bit, and R is cleared. The page leaves
-- whose counter is lowest, of equals the one in the first frame. A page comes in with the counter 0.
use Rattle.std.specs.Prelude.{ℕ, zero, suc, ◌+◌, ◌-◌, ◌/◌, ◌^◌, ◌==◌, Bool, false, cond, min, List, [], ◌∷◌, map, Option, Some, None}
use Rattle.clock_policy.specs.declared.key.Key.{Key}
use Rattle.ticked_policies.specs.declared.page_use.PageUse.{PageUse}
use Rattle.ticked_policies.specs.declared.marks.Marks.{Marks}
use Rattle.ticked_policies.specs.declared.ticked_rule.TickedRule.{TickedRule}
use Rattle.ticked_policies.specs.declared.ticked_rule.TickedRule.TheVariants.{NotRecentlyUsed, Aging}
use Rattle.ticked_policies.specs.declared.ticked_state.Ticked.{Ticked}
use Rattle.ticked_policies.specs.declared.ticks.AgingTicks.{AgingTicks}
use Rattle.ticked_policies.specs.declared.ticks.NruTicks.{NruTicks}
use Rattle.ticked_policies.specs.Framed.{in_frames, noted, fresh, brought}
use Rattle.ticked_policies.specs.Uses.{misses}

-- the pages in frames, and how many references come up to the next tick
pub record TickedState : Type 0 where
  pub pages : List (Key × Marks)
  pub left : ℕ

abbrev pub class_of : Marks → ℕ
class_of m = cond m.used 2 0 + cond m.changed 1 0

-- the leftmost bit of a counter that has so many, 32 at most
unfoldable pub top_bit : ℕ → ℕ
top_bit bits = 2 ^ min (bits - 1) 31

-- the page whose rank is least leaves
abbrev pub rank_of : TickedRule → Marks → ℕ
rank_of NotRecentlyUsed m = class_of m
rank_of (Aging bits) m = m.number

-- a counter after a tick
abbrev pub aged : ℕ → Marks → ℕ
aged bits m = m.number / 2 + cond m.used (top_bit bits) 0

-- what a tick leaves of a page's marks
abbrev pub ticked : TickedRule → Marks → Marks
ticked NotRecentlyUsed m = record { used = false; changed = m.changed; number = m.number }
ticked (Aging bits) m = record { used = false; changed = m.changed; number = aged bits m }

abbrev pub each_ticked : TickedRule → List (Key × Marks) → List (Key × Marks)
each_ticked rule fs = map (λ f. (f.0, ticked rule f.1)) fs

-- the same of the page in one frame
abbrev pub ticked_at : TickedRule → ℕ → List (Key × Marks) → List (Key × Marks)
ticked_at rule place [] = []
ticked_at rule zero (f ∷ fs) = (f.0, ticked rule f.1) ∷ fs
ticked_at rule (suc place) (f ∷ fs) = f ∷ ticked_at rule place fs

-- a tick comes, or not yet
abbrev pub passed : TickedRule → ℕ → TickedState → TickedState
passed rule every s = cond (s.left == 1) (record { pages = each_ticked rule s.pages; left = every }) (record { pages = s.pages; left = s.left - 1 })

abbrev pub in_ticked : Key → TickedState → Bool
in_ticked p s = in_frames p s.pages

-- a reference, without the tick after it
abbrev pub served : TickedRule → ℕ → PageUse → List (Key × Marks) → List (Key × Marks)
served rule m r fs = cond (in_frames r.page fs) (noted r.page r.is_written fs) (brought (rank_of rule) m r.page (fresh r.is_written 0) fs)

abbrev pub ticked_by : TickedRule → ℕ → ℕ → PageUse → TickedState → TickedState
ticked_by rule every m r s = passed rule every (record { pages = served rule m r s.pages; left = s.left })

unfoldable pub ticked_misses : TickedRule → ℕ → ℕ → List PageUse → ℕ
ticked_misses rule every m string = misses in_ticked (ticked_by rule every m) (record { pages = []; left = every }) string

-- ticks come as often as is asked for, or after as many references as there are frames
abbrev pub every_of : Option ℕ → ℕ → ℕ
every_of None m = m
every_of (Some every) m = every

unfoldable pub nru_misses : NruTicks → ℕ → List PageUse → ℕ
nru_misses ticks m string = ticked_misses NotRecentlyUsed (every_of ticks.every m) m string

unfoldable pub aging_misses : AgingTicks → ℕ → List PageUse → ℕ
aging_misses ticks m string = ticked_misses (Aging ticks.bits) (every_of ticks.every m) m string

-- the counter as this definition sees it
abbrev pub table_of : Ticked → TickedState
table_of s = record { pages = s.pages.entries; left = s.left }
