-- ARC: Nimrod Megiddo and Dharmendra S. Modha, "ARC: A Self-Tuning, Low Overhead Replacement Cache", FAST 2003, figure 4. Lines of its
-- pseudo-code are beside the equations, with its authors' names. T1 has the pages in frames that were used once, T2 those used more
-- often. B1 and B2 have the pages that left them. Each has the most recently used page at the front. The target p is theirs but for one
-- thing: it is a whole number here, and a quotient of lengths is rounded down; so `exceeds the target` and `= p` compare whole numbers.
use Rattle.std.specs.Prelude.{ℕ, ◌+◌, ◌-◌, ◌*◌, ◌/◌, ◌==◌, Bool, true, false, cond, nat_lt, nat_le, min, List, [], length, Option, Some, None}
use Rattle.clock_policy.specs.declared.key.Key.{Key}
use Rattle.page_policies.specs.Strings.{holds, without, misses}
use Rattle.page_policies.specs.Ordered.{to_front, last_of, but_last}
use Rattle.younger_policies.specs.declared.arc.Arc.{Arc}

pub record ArcState : Type 0 where
  pub t1 : List Key
  pub t2 : List Key
  pub b1 : List Key
  pub b2 : List Key
  pub target : ℕ

-- by how much the target moves: 1 if the list that was hit is the longer one, else the quotient of the lengths
abbrev pub step_of : ℕ → ℕ → ℕ
step_of hit other = cond (nat_le other hit) 1 (other / hit)

-- Case II: update p = min {p + d1, c}, where d1 is 1 if |B1| >= |B2|, and |B2| / |B1| otherwise
abbrev pub grown : ℕ → ArcState → ArcState
grown c s = record s { target = min (s.target + step_of (length s.b1) (length s.b2)) c }

-- Case III: update p = max {p - d2, 0}, where d2 is 1 if |B2| >= |B1|, and |B1| / |B2| otherwise
abbrev pub shrunk : ArcState → ArcState
shrunk s = record s { target = s.target - step_of (length s.b2) (length s.b1) }

abbrev pub with_last : Option Key → List Key → List Key
with_last None s = s
with_last (Some q) s = to_front q s

-- Delete the LRU page in T1 (also remove it from the cache), and move it to MRU position in B1.
abbrev pub first_out : ArcState → ArcState
first_out s = record { t1 = but_last s.t1; t2 = s.t2; b1 = with_last (last_of s.t1) s.b1; b2 = s.b2; target = s.target }

-- Delete the LRU page in T2 (also remove it from the cache), and move it to MRU position in B2.
abbrev pub second_out : ArcState → ArcState
second_out s = record { t1 = s.t1; t2 = but_last s.t2; b1 = s.b1; b2 = with_last (last_of s.t2) s.b2; target = s.target }

-- if ((|T1| is not empty) and ((|T1| exceeds the target p) or (x is in B2 and |T1| = p)))
abbrev pub takes_first : Bool → ArcState → Bool
takes_first in_b2 s = cond (nat_lt 0 (length s.t1)) (cond (nat_lt s.target (length s.t1)) true (cond in_b2 (length s.t1 == s.target) false)) false

-- REPLACE(x, p)
abbrev pub replaced : Bool → ArcState → ArcState
replaced in_b2 s = cond (takes_first in_b2 s) (first_out s) (second_out s)

-- Case I: x is in T1 or T2. Move x to MRU position in T2.
abbrev pub hit : Key → ArcState → ArcState
hit p s = record { t1 = cond (holds p s.t2) s.t1 (without p s.t1); t2 = to_front p s.t2; b1 = s.b1; b2 = s.b2; target = s.target }

-- Move x from B1 to the MRU position in T2 (also fetch x to the cache).
abbrev pub from_first : Key → ArcState → ArcState
from_first p s = record { t1 = s.t1; t2 = to_front p s.t2; b1 = without p s.b1; b2 = s.b2; target = s.target }

-- Move x from B2 to the MRU position in T2 (also fetch x to the cache).
abbrev pub from_second : Key → ArcState → ArcState
from_second p s = record { t1 = s.t1; t2 = to_front p s.t2; b1 = s.b1; b2 = without p s.b2; target = s.target }

-- Finally, fetch x to the cache and move it to MRU position in T1.
abbrev pub fetched : Key → ArcState → ArcState
fetched p s = record { t1 = to_front p s.t1; t2 = s.t2; b1 = s.b1; b2 = s.b2; target = s.target }

abbrev pub without_b1 : ArcState → ArcState
without_b1 s = record s { b1 = but_last s.b1 }

abbrev pub without_b2 : ArcState → ArcState
without_b2 s = record s { b2 = but_last s.b2 }

abbrev pub without_t1 : ArcState → ArcState
without_t1 s = record s { t1 = but_last s.t1 }

-- Case A: L1 = T1 and B1 has exactly c pages. If (|T1| < c) delete LRU page in B1, REPLACE(x, p). Else here B1 is empty: delete LRU
-- page in T1 (also remove it from the cache).
abbrev pub case_a : ℕ → ArcState → ArcState
case_a c s = cond (nat_lt (length s.t1) c) (replaced false (without_b1 s)) (without_t1 s)

abbrev pub all_pages : ArcState → ℕ
all_pages s = (length s.t1 + length s.t2) + (length s.b1 + length s.b2)

-- Case B: L1 has less than c pages. If (|T1| + |T2| + |B1| + |B2| >= c): delete LRU page in B2, if (|T1| + |T2| + |B1| + |B2| = 2c);
-- REPLACE(x, p).
abbrev pub case_b : ℕ → ArcState → ArcState
case_b c s = cond (nat_lt (all_pages s) c) s (replaced false (cond (all_pages s == 2 * c) (without_b2 s) s))

-- Case IV: x is in none of the lists
abbrev pub new_page : ℕ → Key → ArcState → ArcState
new_page c p s = fetched p (cond (length s.t1 + length s.b1 == c) (case_a c s) (case_b c s))

-- Cases II, III and IV
abbrev pub missed : ℕ → Key → ArcState → ArcState
missed c p s = cond (holds p s.b1) (from_first p (replaced false (grown c s))) (cond (holds p s.b2) (from_second p (replaced true (shrunk s))) (new_page c p s))

abbrev pub in_arc : Key → ArcState → Bool
in_arc p s = cond (holds p s.t2) true (holds p s.t1)

abbrev pub arc : ℕ → Key → ArcState → ArcState
arc c p s = cond (in_arc p s) (hit p s) (missed c p s)

-- Set p = 0 and set the LRU lists T1, B1, T2, and B2 to empty.
unfoldable pub arc_misses : ℕ → List Key → ℕ
arc_misses c string = misses in_arc (arc c) (record { t1 = []; t2 = []; b1 = []; b2 = []; target = 0 }) string

-- the counter as this definition sees it
abbrev pub lists_of : Arc → ArcState
lists_of s = record { t1 = s.t1; t2 = s.t2; b1 = s.b1; b2 = s.b2; target = s.target }
