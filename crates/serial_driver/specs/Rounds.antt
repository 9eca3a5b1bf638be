-- Which hart is next: the least live one above the last of its process, and else the least of the next process that goes on.
use Rattle.std.specs.Prelude.{◌≡◌, ◌⊎◌, ◌&&◌, ◌<◌, ◌≤◌, ◌+◌, ℕ, ⊤, Bool, true, false, Option, Some, None, slice_get}
use Rattle.machine_core.specs.Machine.{CoreValue}
use Rattle.machine_core.specs.Reading.{is_live_in}
use Rattle.machine_limits.specs.declared.TheConstants.{MOST_HARTS}
use Rattle.serial_driver.specs.Closing.{goes_on}
use Rattle.serial_driver.specs.Endings.{HasEnded}

-- a number is above the last one, if there was one
abbrev pub IsAbove : Option ℕ → ℕ → Type 0
IsAbove None number = ⊤
IsAbove (Some last) number = last < number

module _ {S : Type 0} where
  -- whether a process goes on and has such a live hart
  abbrev pub lives_in : CoreValue S → ℕ → ℕ → Bool
  lives_in core process hart = goes_on (slice_get core.processes process) && is_live_in (slice_get core.processes process) hart

  -- no hart of a process above the last one is live
  abbrev pub NoneAbove : CoreValue S → ℕ → Option ℕ → Type 0
  NoneAbove core process last = (hart : ℕ) → hart < MOST_HARTS → IsAbove last hart → lives_in core process hart ≡ false

  -- a hart is the least live one of its process above the last one
  pub record IsLeastAbove (core : CoreValue S) (process : ℕ) (last : Option ℕ) (hart : ℕ) : Type 0 where
    pub above : IsAbove last hart
    pub live : lives_in core process hart ≡ true
    pub least : (other : ℕ) → other < hart → IsAbove last other → lives_in core process other ≡ false

  -- a process goes on, and none of those does that are from one number on and below it
  pub record GoesOnFirst (core : CoreValue S) (from process : ℕ) : Type 0 where
    pub goes : goes_on (slice_get core.processes process) ≡ true
    pub others : (other : ℕ) → from ≤ other → other < process → HasEnded core other

  -- the next process that goes on after one: the first above it, and where none is above it the first of all
  abbrev pub IsNextProcess : CoreValue S → ℕ → ℕ → Type 0
  IsNextProcess core last process =
      ((last < process) × GoesOnFirst core (last + 1) process) ⊎ (((other : ℕ) → last < other → HasEnded core other) × GoesOnFirst core 0 process)

module _ {S : Type 0} (honest : Type 0) where
  -- a hart is the least live one of its process; only where slots are not honest may the process have none, and then it is the first
  abbrev pub IsFirst : CoreValue S → ℕ → ℕ → Type 0
  IsFirst core process hart = IsLeastAbove core process None hart ⊎ ((honest → ⊥) × ((hart ≡ 0) × NoneAbove core process None))

  -- The hart whose turn is next after the last one of a process, if there was one: the least live one above it there. Where none is, it
  -- is the least live one of the next process that goes on.
  abbrev pub IsNextHart : CoreValue S → ℕ → Option ℕ → ℕ → ℕ → Type 0
  IsNextHart core process last next hart =
      ((next ≡ process) × IsLeastAbove core process last hart) ⊎ (NoneAbove core process last × (IsNextProcess core process next × IsFirst core next hart))
