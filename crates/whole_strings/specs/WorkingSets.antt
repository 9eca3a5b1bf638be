-- Working sets: at each moment the pages of the last so many references. Peter J. Denning, "The Working Set Model for Program Behavior",
-- Communications of the ACM 1968: W(t, T) is the set of pages that are referenced in the last T references at time t. Here T is the window,
-- and a past has the references so far, the last one first.
use Rattle.std.specs.Prelude.{◌≡◌, ℕ, ◌+◌, ◌<◌, ◌^◌, ◌-◌, cond, min, List, [], ◌∷◌, take, length, slice_get, Some, ◌≤◌, ◌&&◌, Bool, nat_le, nat_lt, ⊤}
use Rattle.clock_policy.specs.declared.key.Key.{Key}
use Rattle.page_policies.specs.Strings.{holds}
use Rattle.page_policies.specs.Optimal.{next_use}
use Rattle.page_policies.specs.Demand.{one}
use Rattle.whole_strings.specs.LruDepths.{hits_within}
use Rattle.whole_strings.specs.declared.working_sets.WindowCounts.{WindowCounts}

-- how many pages a list has that are not among others, each counted where it is first
abbrev pub pages_beside : List Key → List Key → ℕ
pages_beside others [] = 0
pages_beside others (q ∷ qs) = cond (holds q others) 0 1 + pages_beside (q ∷ others) qs

-- how many pages the working set has
abbrev pub set_size : ℕ → List Key → ℕ
set_size window past = pages_beside [] (take window past)

-- its sizes after each reference of a string, added up
abbrev pub sizes_from : ℕ → List Key → List Key → ℕ
sizes_from window past [] = 0
sizes_from window past (p ∷ ps) = set_size window (p ∷ past) + sizes_from window (p ∷ past) ps

-- how many references of a string are to a page that is not in the working set before them
abbrev pub missing_from : ℕ → List Key → List Key → ℕ
missing_from window past [] = 0
missing_from window past (p ∷ ps) = cond (holds p (take window past)) 0 1 + missing_from window (p ∷ past) ps

-- the same of a whole string: the mean size of the working set is the sum of its sizes for each reference, and its miss rate how many are
-- missing for each reference
unfoldable pub set_sizes : ℕ → List Key → ℕ
set_sizes window string = sizes_from window [] string

unfoldable pub set_misses : ℕ → List Key → ℕ
set_misses window string = missing_from window [] string

-- a count of 64 bits, which stays at its last value
abbrev pub at_most_word : ℕ → ℕ
at_most_word n = min n (2 ^ 64 - 1)

abbrev pub counts_of : ℕ → List Key → WindowCounts
counts_of window string = record { sizes = at_most_word (set_sizes window string); misses = set_misses window string }

-- what a string comes to with a window of 1, 2, 3 and more references, up to all of them
pub record IsWindowCurve (curve : List WindowCounts) (string : List Key) : Type 0 where
  pub whole : length curve ≡ length string
  pub each : (n : ℕ) → n < length string → slice_get curve n ≡ Some (counts_of (n + 1) string)

-- how many references have at least so many others before their page is used again, or before the end
abbrev pub reaching : ℕ → List Key → ℕ
reaching window [] = 0
reaching window (p ∷ ps) = one (nat_le window (next_use p ps)) + reaching window ps

-- a page is used again, with fewer than so many references before
abbrev pub comes_back : ℕ → Key → List Key → Bool
comes_back window q string = nat_lt (next_use q string) window && nat_lt (next_use q string) (length string)

-- how many references' pages are used again, with fewer than so many others before
abbrev pub returning : ℕ → List Key → ℕ
returning window [] = 0
returning window (p ∷ ps) = one (comes_back window p ps) + returning window ps

-- what is counted of next uses: how many are so many, of all, or of those pages that are used again
pub record IsAhead (counts : List ℕ) (string : List Key) : Type 0 where
  pub size : length counts ≡ length string
  pub within : (m : ℕ) → reaching m string + hits_within m counts ≡ length string

pub record IsReturning (counts : List ℕ) (string : List Key) : Type 0 where
  pub size : length counts ≡ length string
  pub within : (m : ℕ) → returning m string ≡ hits_within m counts

-- each next use of a string is within what is left of it
abbrev pub Inside : List ℕ → Type 0
Inside [] = ⊤
Inside (u ∷ us) = (u ≤ length us) × Inside us
