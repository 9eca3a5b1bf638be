-- CLOCK (second chance) on the circle of frames, listed from the hand on.
use Rattle.std.specs.Prelude.{ℕ, zero, suc, Bool, true, false, cond, nat_lt, List, [], ◌∷◌, ◌++◌, length, drop}
use Rattle.clock_policy.specs.declared.key.Key.{Key}
use Rattle.clock_policy.specs.ClockPro.{is_hot}
use Rattle.page_ring.specs.Linked.{Cell}
use Rattle.page_policies.specs.Strings.{is_page, misses}

-- a frame's page, and whether it was used since the hand last passed it
pub record Slot : Type 0 where
  pub page : Key
  pub used : Bool

abbrev pub in_slots : Key → List Slot → Bool
in_slots p [] = false
in_slots p (x ∷ xs) = cond (is_page x.page p) true (in_slots p xs)

-- the page is marked as used
abbrev pub touched : Key → List Slot → List Slot
touched p [] = []
touched p (x ∷ xs) = cond (is_page x.page p) (record { page = x.page; used = true } ∷ xs) (x ∷ touched p xs)

-- whether the page at the hand was used
abbrev pub front_used : List Slot → Bool
front_used [] = false
front_used (x ∷ xs) = x.used

-- the hand passes a page, which loses its mark
abbrev pub turned : List Slot → List Slot
turned [] = []
turned (x ∷ xs) = xs ++ record { page = x.page; used = false } ∷ []

-- Used pages are passed, so many at most, and then the page at the hand leaves.
abbrev pub one_gone : ℕ → List Slot → List Slot
one_gone zero s = drop 1 s
one_gone (suc n) s = cond (front_used s) (one_gone n (turned s)) (drop 1 s)

-- room for one page: where each frame has one, a page leaves, after one round at most
abbrev pub room_made : ℕ → List Slot → List Slot
room_made m s = cond (nat_lt (length s) m) s (one_gone (length s) s)

-- A page that comes in is marked as used. It is in the place that the hand reaches last.
abbrev pub second_chance : ℕ → Key → List Slot → List Slot
second_chance m p s = cond (in_slots p s) (touched p s) (room_made m s ++ record { page = p; used = true } ∷ [])

unfoldable pub clock_misses : ℕ → List Key → ℕ
clock_misses m string = misses in_slots (second_chance m) [] string

-- the circle's cells as slots
abbrev pub slot_of : Cell → Slot
slot_of c = record { page = c.entry.key; used = is_hot c.entry.kind }

abbrev pub slots_of : List Cell → List Slot
slots_of [] = []
slots_of (c ∷ cs) = slot_of c ∷ slots_of cs
