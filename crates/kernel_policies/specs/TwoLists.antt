-- Linux's two lists of pages with refault distance, as for files that are read: Linux, mm/workingset.c (the comment "Double CLOCK lists"),
-- mm/swap.c (mark_page_accessed) and mm/vmscan.c (inactive_is_low, shrink_active_list). An inactive page that is used is marked, and its
-- next use moves it to the active list, without its mark; an active page is marked where it is. Before a page leaves, pages go from the
-- tail of the active list to the head of the inactive list, with their marks, until the active list is at most so many times as long.
-- Then the tail of the inactive list leaves.
--
-- A counter, nonresident_age, has how many pages left and how many became active. A page that leaves has its value as a shadow. Where
-- such a page comes back, its refault distance is by how much the counter went on since. If that is at most the number of active pages,
-- it comes into the active list, else into the inactive one. Shadows are kept of as many pages as there are frames. Of a page whose
-- shadow is gone the distance is greater than the active list may be long.
use Rattle.std.specs.Prelude.{ℕ, zero, suc, ◌+◌, ◌-◌, ◌*◌, ◌/◌, ◌^◌, Bool, true, false, cond, nat_lt, nat_le, min, max, List, [], length, Option, Some, None}
use Rattle.std.specs.HashMap.{get}
use Rattle.std.specs.HashSet.{contains}
use Rattle.clock_policy.specs.declared.key.Key.{Key}
use Rattle.page_policies.specs.Strings.{is_page, holds, without, misses}
use Rattle.page_policies.specs.Ordered.{to_front, last_of, but_last}
use Rattle.page_policies.specs.NextUses.{known}
use Rattle.ticked_policies.specs.declared.arrival.Arrival.{Arrival}
use Rattle.ticked_policies.specs.declared.arrival.Arrival.TheVariants.{Marked, Clear}
use Rattle.kernel_policies.specs.declared.two_lists_parts.TwoListsParts.{TwoListsParts}
use Rattle.kernel_policies.specs.declared.lists.Lists.{Lists}

-- Each list with its head first. `left_at` is the counter's value when a page left, and 0 for one that has no shadow.
pub record ListsState : Type 0 where
  pub inactive : List Key
  pub active : List Key
  pub shadows : List Key
  pub referenced : Key → Bool
  pub left_at : Key → ℕ
  pub age : ℕ

abbrev pub usual_parts : TwoListsParts
usual_parts = record { ratio = None; arrival = Marked }

-- the greatest number, r at most, whose square is at most n
abbrev pub root_within : ℕ → ℕ → ℕ
root_within n zero = 0
root_within n (suc r) = cond (nat_le (suc r * suc r) n) (suc r) (root_within n r)

unfoldable pub int_sqrt : ℕ → ℕ
int_sqrt n = root_within n n

-- How many times as long the active list may be as the inactive one. Linux: the root of ten times the gigabytes, 1 below one gigabyte. A
-- page has 4 KB.
abbrev pub ratio_of : Option ℕ → ℕ → ℕ
ratio_of None m = max 1 (int_sqrt (10 * (m / 2 ^ 18)))
ratio_of (Some ratio) m = ratio

-- the counter goes on, up to the greatest number that is kept
abbrev pub next_age : ℕ → ℕ
next_age n = min (n + 1) (2 ^ 64 - 1)

abbrev pub with_mark : Key → Bool → (Key → Bool) → Key → Bool
with_mark p mark marks q = cond (is_page p q) mark (marks q)

abbrev pub with_age : Key → ℕ → (Key → ℕ) → Key → ℕ
with_age p n ages q = cond (is_page p q) n (ages q)

abbrev pub with_head : Option Key → List Key → List Key
with_head None s = s
with_head (Some q) s = to_front q s

-- inactive_is_low
abbrev pub is_low : ℕ → ListsState → Bool
is_low ratio s = nat_lt (length s.inactive * ratio) (length s.active)

-- the tail of the active list goes to the head of the inactive list (shrink_active_list)
abbrev pub demoted : ListsState → ListsState
demoted s = record s { active = but_last s.active; inactive = with_head (last_of s.active) s.inactive }

-- so many pages at most
abbrev pub balanced : ℕ → ℕ → ListsState → ListsState
balanced ratio zero s = s
balanced ratio (suc n) s = cond (is_low ratio s) (balanced ratio n (demoted s)) s

-- a page that has left has a shadow (workingset_eviction)
abbrev pub shadowed : Key → ListsState → ListsState
shadowed q s = record s {
  shadows = to_front q s.shadows;
  referenced = with_mark q false s.referenced;
  left_at = with_age q (next_age s.age) s.left_at;
  age = next_age s.age;
}

abbrev pub left : Option Key → ListsState → ListsState
left None s = s
left (Some q) s = shadowed q s

-- the tail of the inactive list leaves
abbrev pub evicted : ListsState → ListsState
evicted s = left (last_of s.inactive) (record s { inactive = but_last s.inactive })

-- the oldest shadow goes
abbrev pub aged_out : Option Key → (Key → ℕ) → Key → ℕ
aged_out None ages = ages
aged_out (Some q) ages = with_age q 0 ages

abbrev pub oldest_gone : ListsState → ListsState
oldest_gone s = record s { shadows = but_last s.shadows; left_at = aged_out (last_of s.shadows) s.left_at }

abbrev pub shadows_cut : ℕ → ListsState → ListsState
shadows_cut m s = cond (nat_lt m (length s.shadows)) (oldest_gone s) s

abbrev pub resident : ListsState → ℕ
resident s = length s.inactive + length s.active

-- room for one page
abbrev pub reclaimed : ℕ → ℕ → ListsState → ListsState
reclaimed m ratio s = shadows_cut m (evicted (balanced ratio (length s.active) s))

abbrev pub room_made : ℕ → ℕ → ListsState → ListsState
room_made m ratio s = cond (nat_lt (resident s) m) s (reclaimed m ratio s)

-- the refault distance is at most the number of active pages (workingset_refault)
abbrev pub refaults : Key → ListsState → Bool
refaults p s = cond (holds p s.shadows) (nat_le (s.age - s.left_at p) (length s.active)) false

abbrev pub no_shadow : Key → ListsState → ListsState
no_shadow p s = record s { shadows = without p s.shadows; left_at = with_age p 0 s.left_at }

-- A page comes into the active list, or into the inactive one. Its first use is the one that missed: a read marks it.
abbrev pub made_active : Key → ListsState → ListsState
made_active p s = record s { active = to_front p s.active; age = next_age s.age }

abbrev pub made_inactive : Key → ListsState → ListsState
made_inactive p s = record s { inactive = to_front p s.inactive }

abbrev pub placed : Bool → Key → ListsState → ListsState
placed refault p s = cond refault (made_active p s) (made_inactive p s)

abbrev pub arrives_marked : Arrival → Bool
arrives_marked Marked = true
arrives_marked Clear = false

abbrev pub marked_as : Bool → Key → ListsState → ListsState
marked_as mark p s = record s { referenced = with_mark p mark s.referenced }

abbrev pub came : Arrival → Key → ListsState → ListsState
came arrival p s = marked_as (arrives_marked arrival) p (placed (refaults p s) p (no_shadow p s))

-- a marked inactive page is used (workingset_activation)
abbrev pub activated : Key → ListsState → ListsState
activated p s = made_active p (record s { inactive = without p s.inactive; referenced = with_mark p false s.referenced })

-- mark_page_accessed
abbrev pub accessed : Key → ListsState → ListsState
accessed p s = cond (holds p s.active) (marked_as true p s) (cond (s.referenced p) (activated p s) (marked_as true p s))

abbrev pub in_lists : Key → ListsState → Bool
in_lists p s = cond (holds p s.active) true (holds p s.inactive)

abbrev pub two_lists : ℕ → ℕ → Arrival → Key → ListsState → ListsState
two_lists m ratio arrival p s = cond (in_lists p s) (accessed p s) (came arrival p (room_made m ratio s))

abbrev pub empty_lists : ListsState
empty_lists = record { inactive = []; active = []; shadows = []; referenced = λ q. false; left_at = λ q. 0; age = 0 }

unfoldable pub two_lists_misses : TwoListsParts → ℕ → List Key → ℕ
two_lists_misses parts m string = misses in_lists (two_lists m (ratio_of parts.ratio m) parts.arrival) empty_lists string

-- the counter as this definition sees it
abbrev pub lists_of : Lists → ListsState
lists_of s = record {
  inactive = s.inactive;
  active = s.active;
  shadows = s.shadows;
  referenced = λ q. contains is_page s.referenced q;
  left_at = λ q. known (get is_page s.left_at q);
  age = s.age;
}
