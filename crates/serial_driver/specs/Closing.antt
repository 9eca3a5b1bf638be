-- The events that close a run at its limit.
use Rattle.std.specs.Prelude.{ℕ, zero, suc, Bool, true, false, is_none, List, [], ◌∷◌, ◌++◌, slice_get, Option, Some, None, if◌then◌else◌}
use Rattle.flat_machine.specs.declared.end.KillCause.{KillCause}
use Rattle.flat_machine.specs.declared.end.KillCause.TheVariants as cause
use Rattle.machine_core.specs.declared.event.Event.{Event}
use Rattle.machine_core.specs.declared.event.Event.TheVariants.{Kill, Purge}
use Rattle.space_core.specs.StandsFor.{SpaceValue}

-- whether a process is ended because a limit was reached
abbrev pub is_limit : KillCause → Bool
is_limit cause.NoSwap = false
is_limit cause.LoadFailed = false
is_limit cause.Damaged = false
is_limit cause.ScheduleFull = false
is_limit cause.NoMemory = false
is_limit cause.Limit = true

-- whether an event ends a process so
abbrev pub is_limit_kill : Event → Bool
is_limit_kill (Kill process cause) = is_limit cause
is_limit_kill _ = false

module _ {S : Type 0} where
  -- whether a process is there and has not ended
  abbrev pub goes_on : Option (SpaceValue S) → Bool
  goes_on None = false
  goes_on (Some process) = is_none process.running.ending

  -- a process that goes on is ended, and each gives back what it has
  abbrev pub kill_of : ℕ → Option (SpaceValue S) → List Event
  kill_of number process = if goes_on process then Kill number cause.Limit ∷ [] else []

  abbrev pub closing_of : List (SpaceValue S) → ℕ → List Event
  closing_of processes number = kill_of number (slice_get processes number) ++ Purge number ∷ []

  -- the same of each process below a number, by rising number
  unfoldable pub closing_below : List (SpaceValue S) → ℕ → List Event
  closing_below processes zero = []
  closing_below processes (suc number) = closing_below processes number ++ closing_of processes number
