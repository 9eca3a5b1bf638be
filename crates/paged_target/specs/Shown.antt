-- What a machine of one process shows of it: the flat process that its recorded instructions leave.
use Rattle.std.specs.Prelude.{ℕ, Bool, true, false, List, [], slice_get, option_and_then, Option, Some, None, unwrap_or}
use Rattle.page_store.specs.declared.state.PageState.{PageState}
use Rattle.paged_memory.specs.Whole.{stage_in}
use Rattle.flat_machine.specs.Process.{Process, opening, flat_run}
use Rattle.flat_machine.specs.Schedule.{written_out}
use Rattle.space_core.specs.StandsFor.{SpaceValue}
use Rattle.machine_core.specs.Machine.{CoreValue}
use Rattle.debug_core.specs.Progresses.{ended_full}

-- a machine, and whether its process was ended because no more steps can be recorded
pub record TargetValue : Type 0 where
  pub core : CoreValue (List ℕ)
  pub full : Bool

-- what a machine of no process would show
abbrev pub no_process : Process
no_process = opening (record { entry = 0; pages = [] }) []

module _ {S : Type 0} where
  -- the flat process that recorded instructions leave
  abbrev pub flat_of : SpaceValue S → Process
  flat_of space = unwrap_or (flat_run (written_out space.schedule) (opening space.image space.input)) no_process

  abbrev pub flat_in : Option (SpaceValue S) → Process
  flat_in None = no_process
  flat_in (Some side) = flat_of side

  -- the same of the process of number 0
  abbrev pub flat_at : CoreValue S → Process
  flat_at core = flat_in (slice_get core.processes 0)

  -- where a page of that process is
  abbrev pub stage_of : ℕ → SpaceValue S → Option PageState
  stage_of number side = stage_in side.memory number

  abbrev pub stage_shown : CoreValue S → ℕ → Option PageState
  stage_shown core number = option_and_then (stage_of number) (slice_get core.processes 0)

abbrev pub shown_as : Bool → Process → Process
shown_as false flat = flat
shown_as true flat = ended_full flat

-- what it shows: the flat process, which ends where no more steps can be recorded
abbrev pub shown_of : TargetValue → Process
shown_of target = shown_as target.full (flat_at target.core)
