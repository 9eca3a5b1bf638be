-- CAR: Sorav Bansal and Dharmendra S. Modha, "CAR: Clock with Adaptive Replacement", FAST 2004, figure 2. Lines of its pseudo-code are
-- beside the equations. The names are the authors': T1 and T2 are clocks of the pages in frames, B1 and B2 are lists of pages that left
-- them. A clock is listed from its tail to its head, which is last and which the hand looks at next. B1 and B2 begin with the most
-- recently used page. The target p differs from theirs in one thing: it is a whole number, and a quotient of lengths is rounded down.
use Rattle.std.specs.Prelude.{ℕ, zero, suc, ◌+◌, ◌-◌, ◌*◌, ◌/◌, ◌==◌, Bool, true, false, cond, nat_lt, nat_le, min, max, List, [], length, Option, Some, None}
use Rattle.std.specs.HashSet.{contains}
use Rattle.clock_policy.specs.declared.key.Key.{Key}
use Rattle.page_policies.specs.Strings.{is_page, holds, without, misses}
use Rattle.page_policies.specs.Ordered.{to_front, last_of, but_last}
use Rattle.textbook_policies.specs.declared.car.Car.{Car}

pub record CarState : Type 0 where
  pub t1 : List Key
  pub t2 : List Key
  pub b1 : List Key
  pub b2 : List Key
  pub referenced : Key → Bool
  pub target : ℕ

-- if (|T1| >= max(1, p)) (line 24)
abbrev pub takes_first : CarState → Bool
takes_first s = nat_le (max 1 s.target) (length s.t1)

abbrev pub with_last : Option Key → List Key → List Key
with_last None s = s
with_last (Some q) s = to_front q s

-- the page reference bit of the head page (lines 25 and 32)
abbrev pub bit_of : Option Key → CarState → Bool
bit_of None s = false
bit_of (Some q) s = s.referenced q

abbrev pub cleared : Key → (Key → Bool) → Key → Bool
cleared p marks q = cond (is_page p q) false (marks q)

-- Demote the head page in T1 and make it the MRU page in B1 (line 27).
abbrev pub first_out : CarState → CarState
first_out s = record s { t1 = but_last s.t1; b1 = with_last (last_of s.t1) s.b1 }

-- Set the page reference bit of head page in T1 to 0, and make it the tail page in T2 (line 29).
abbrev pub first_on : Option Key → CarState → CarState
first_on None s = s
first_on (Some q) s = record s { t1 = but_last s.t1; t2 = to_front q s.t2; referenced = cleared q s.referenced }

-- Demote the head page in T2 and make it the MRU page in B2 (line 34).
abbrev pub second_out : CarState → CarState
second_out s = record s { t2 = but_last s.t2; b2 = with_last (last_of s.t2) s.b2 }

-- Set the page reference bit of head page in T2 to 0, and make it the tail page in T2 (line 36).
abbrev pub second_on : Option Key → CarState → CarState
second_on None s = s
second_on (Some q) s = record s { t2 = to_front q s.t2; referenced = cleared q s.referenced }

-- whether the head page in question has its bit set
abbrev pub head_used : CarState → Bool
head_used s = cond (takes_first s) (bit_of (last_of s.t1) s) (bit_of (last_of s.t2) s)

abbrev pub head_out : CarState → CarState
head_out s = cond (takes_first s) (first_out s) (second_out s)

abbrev pub head_on : CarState → CarState
head_on s = cond (takes_first s) (first_on (last_of s.t1) s) (second_on (last_of s.t2) s)

-- replace() (lines 22 to 39): a page that is passed loses its bit, so that one turn for each page is enough
abbrev pub replaced : ℕ → CarState → CarState
replaced zero s = head_out s
replaced (suc n) s = cond (head_used s) (replaced n (head_on s)) (head_out s)

abbrev pub in_frames : CarState → ℕ
in_frames s = length s.t1 + length s.t2

-- x is in B1 ∪ B2
abbrev pub in_history : Key → CarState → Bool
in_history p s = cond (holds p s.b1) true (holds p s.b2)

-- Cache directory replacement. If x is not in B1 ∪ B2: if |T1| + |B1| = c then discard the LRU page in B1, else if |T1| + |T2| + |B1| +
-- |B2| = 2c then discard the LRU page in B2 (lines 6 to 10).
abbrev pub directory_cut : ℕ → Key → CarState → CarState
directory_cut c p s = cond (in_history p s) s
    (cond (length s.t1 + length s.b1 == c) (record s { b1 = but_last s.b1 })
    (cond (in_frames s + (length s.b1 + length s.b2) == 2 * c) (record s { b2 = but_last s.b2 }) s))

-- if (|T1| + |T2| = c) then replace (lines 4 to 11)
abbrev pub room_made : ℕ → Key → CarState → CarState
room_made c p s = cond (nat_lt (in_frames s) c) s (directory_cut c p (replaced (in_frames s) s))

-- max {1, |B2| / |B1|} and the like
abbrev pub step_of : ℕ → ℕ → ℕ
step_of hit other = max 1 (other / hit)

-- Adapt: p = min {p + max {1, |B2| / |B1|}, c}. Move x at the tail of T2. Set the page reference bit of x to 0 (lines 15 and 16).
abbrev pub from_first : ℕ → Key → CarState → CarState
from_first c p s = record {
  t1 = s.t1;
  t2 = to_front p s.t2;
  b1 = without p s.b1;
  b2 = s.b2;
  referenced = cleared p s.referenced;
  target = min (s.target + step_of (length s.b1) (length s.b2)) c;
}

-- Adapt: p = max {p - max {1, |B1| / |B2|}, 0}. Move x at the tail of T2. Set the page reference bit of x to 0 (lines 18 and 19).
abbrev pub from_second : Key → CarState → CarState
from_second p s = record {
  t1 = s.t1;
  t2 = to_front p s.t2;
  b1 = s.b1;
  b2 = without p s.b2;
  referenced = cleared p s.referenced;
  target = s.target - step_of (length s.b2) (length s.b1);
}

-- Insert x at the tail of T1. Set the page reference bit of x to 0 (line 13).
abbrev pub came : Key → CarState → CarState
came p s = record s { t1 = to_front p s.t1; referenced = cleared p s.referenced }

-- lines 12 to 20
abbrev pub inserted : ℕ → Key → CarState → CarState
inserted c p s = cond (holds p s.b1) (from_first c p s) (cond (holds p s.b2) (from_second p s) (came p s))

-- Set the page reference bit for x to one (line 2).
abbrev pub used : Key → CarState → CarState
used p s = record s { referenced = λ q. cond (is_page p q) true (s.referenced q) }

-- x is in T1 ∪ T2 (line 1)
abbrev pub in_car : Key → CarState → Bool
in_car p s = cond (holds p s.t2) true (holds p s.t1)

abbrev pub car : ℕ → Key → CarState → CarState
car c p s = cond (in_car p s) (used p s) (inserted c p (room_made c p s))

-- Set p = 0 and set the lists T1, B1, T2, and B2 to empty.
unfoldable pub car_misses : ℕ → List Key → ℕ
car_misses c string = misses in_car (car c) (record { t1 = []; t2 = []; b1 = []; b2 = []; referenced = λ q. false; target = 0 }) string

-- the counter as this definition sees it
abbrev pub clocks_of : Car → CarState
clocks_of s = record { t1 = s.t1; t2 = s.t2; b1 = s.b1; b2 = s.b2; referenced = λ q. contains is_page s.referenced q; target = s.target }
