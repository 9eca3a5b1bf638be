-- When an instruction of a machine's one process is given up.
use Rattle.std.specs.Prelude.{◌≡◌, ℕ, ⊤, List, Option, None, Some, slice_get}
use Rattle.machine_core.specs.Machine.{CoreValue}
use Rattle.serial_driver.specs.Serving.{GivesUp}
use Rattle.space_core.specs.StandsFor.{SpaceValue}

module _ {S : Type 0} where
  abbrev pub GoesOnIn : Option (SpaceValue S) → Type 0
  GoesOnIn None = ⊥
  GoesOnIn (Some side) = side.running.ending ≡ None

  -- the process is there and has not ended
  abbrev pub GoesOn : CoreValue S → Type 0
  GoesOn core = GoesOnIn (slice_get core.processes 0)

-- Events of a run that begins with this hart's instruction, each in turn, lead to a machine in which the process goes on, and there the
-- run would end it for a page that can't be had, or the last event was refused, and not for want of memory.
pub record IsGivenUp (hart : ℕ) (core : CoreValue (List ℕ)) : Type 0 where
  pub left : CoreValue (List ℕ)
  pub gives_up : GivesUp (λ slot. slot) ⊤ (λ slot. 0) 0 hart core left
  pub goes_on : GoesOn left
