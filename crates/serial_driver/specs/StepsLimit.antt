-- A run up to so many steps of a process.
use Rattle.std.specs.Prelude.{◌≡◌, ℕ, ◌*◌, ◌<◌, ◌≤◌, Bool, true, false, List, length, slice_get, Option, Some, None}
use Rattle.flat_machine.specs.Schedule.{written_out}
use Rattle.flat_machine.specs.declared.end.End.{End}
use Rattle.flat_machine.specs.declared.end.End.TheVariants.{Exited, Trapped, Killed}
use Rattle.flat_machine.specs.declared.end.KillCause.TheVariants as cause
use Rattle.machine_core.specs.declared.event.Event.TheVariants.{Kill}
use Rattle.machine_core.specs.declared.event.Reply.{Reply}
use Rattle.machine_core.specs.Applying.{Applies}
use Rattle.machine_core.specs.Machine.{CoreValue}
use Rattle.serial_driver.specs.Closing.{is_limit}
use Rattle.serial_driver.specs.Endings.{HasEnded}
use Rattle.serial_driver.specs.Limit.{PlaysOn, PlaysWith}
use Rattle.serial_driver.specs.Owing.{Duty, no_duty}
use Rattle.serial_driver.specs.Patience.{tries_per_frame}
use Rattle.serial_driver.specs.declared.patience.Patience.{Patience}
use Rattle.space_core.specs.StandsFor.{SpaceValue}

-- whether it is the ending of a process that was ended for a limit
abbrev pub is_limit_end : Option End → Bool
is_limit_end None = false
is_limit_end (Some (Exited status)) = false
is_limit_end (Some (Trapped hart cause pc value)) = false
is_limit_end (Some (Killed cause)) = is_limit cause

-- after so many tries in a row without a step of a process it is ended
abbrev pub most_idle : ℕ
most_idle = 18446744073709551615

module _ {S : Type 0} where
  -- how many steps a process did: as many as are recorded
  abbrev pub steps_of : Option (SpaceValue S) → ℕ
  steps_of None = 0
  steps_of (Some process) = length (written_out process.schedule)

  abbrev pub steps_at : ℕ → CoreValue S → ℕ
  steps_at number core = steps_of (slice_get core.processes number)

  abbrev pub is_limited : Option (SpaceValue S) → Bool
  is_limited None = false
  is_limited (Some process) = is_limit_end process.running.ending

  -- whether the process of a number was ended for a limit
  abbrev pub limited_at : ℕ → CoreValue S → Bool
  limited_at number core = is_limited (slice_get core.processes number)

module _ {S : Type 0} (held : S → List ℕ) (honest : Type 0) (failures : S → ℕ) where
  -- events of a run, so many at most: as many, or fewer where each process has ended
  pub record GoesOn (bound : ℕ) (tried : ℕ → ℕ) (duty : Duty) (spent : Option ℕ) (most : ℕ) (over : Bool) (old new : CoreValue S) (patience : Patience) (left : Duty) : Type 0 where
    pub count : ℕ
    pub plays : PlaysWith held honest failures bound tried duty spent count old new patience left
    pub within : count ≤ most
    pub all : over ≡ false → count ≡ most
    pub ended : over ≡ true → (number : ℕ) → HasEnded new number

  -- why a run ends after so many events: the process has done so many steps; or each process has ended; or so many events came
  -- and none was a step of this process that was still to be done, and it is ended for want of a place for its pages
  pub data Over (process limit count : ℕ) (played new : CoreValue S) : Type 0 where
    Reached : new ≡ played → limit ≤ steps_at process new → Over process limit count played new
    AllEnded : new ≡ played → ((number : ℕ) → HasEnded new number) → Over process limit count played new
    GivenUp : most_idle ≤ count → (reply : Reply) → Applies held honest failures (Kill process cause.NoSwap) played new reply → Over process limit count played new

  -- Events come as in every run, in slices of so many instructions: none of them ends a process for a limit. The process does no more
  -- steps than so many, and fewer only where it has ended.
  pub record PlaysToSteps (slice process limit : ℕ) (old new : CoreValue S) : Type 0 where
    pub count : ℕ
    pub played : CoreValue S
    pub plays : PlaysOn held honest failures (tries_per_frame * old.pager.pager.size) (λ _. 0) (no_duty slice) None count old played
    pub over : Over process limit count played new
    pub within : steps_at process old ≤ limit → steps_at process new ≤ limit
    pub short : steps_at process new < limit → HasEnded new process

  -- a process is given up where it is stuck
  abbrev pub EndsStuck : Bool → ℕ → CoreValue S → CoreValue S → Type 0
  EndsStuck true process old new = (reply : Reply) × Applies held honest failures (Kill process cause.NoSwap) old new reply
  EndsStuck false process old new = new ≡ old

  -- the same before a process is given up
  pub record PlaysSome (slice process limit : ℕ) (stuck : Bool) (old new : CoreValue S) : Type 0 where
    pub count : ℕ
    pub plays : PlaysOn held honest failures (tries_per_frame * old.pager.pager.size) (λ _. 0) (no_duty slice) None count old new
    pub stuck_late : stuck ≡ true → most_idle ≤ count
    pub over : stuck ≡ false → Over process limit count new new
    pub within : steps_at process old ≤ limit → steps_at process new ≤ limit
