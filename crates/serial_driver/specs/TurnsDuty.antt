-- What the driver remembers of what it owes.
use Rattle.std.specs.Prelude.{Option, Some, None}
use Rattle.flat_machine.specs.declared.end.KillCause.{KillCause}
use Rattle.flat_machine.specs.declared.end.KillCause.TheVariants as cause
use Rattle.machine_core.specs.declared.event.Event as machine
use Rattle.machine_core.specs.declared.event.Event.TheVariants as event
use Rattle.serial_driver.specs.declared.failure.Failure.{Failure}
use Rattle.serial_driver.specs.declared.failure.Failure.TheVariants as failure
use Rattle.serial_driver.specs.declared.turns.Stage.{Stage}
use Rattle.serial_driver.specs.declared.turns.Stage.TheVariants.{Choose, Run, Rest, Wait, Clear, Save, Kill, Purge}
use Rattle.serial_driver.specs.declared.turns.Turns.{Turns}
use Rattle.serial_driver.specs.Owing.{Duty}
use Rattle.serial_driver.specs.Turning.{Phase, Begins, Clears, Runs, Rests, Waits, Turn}

-- the cause that is recorded of a failure
abbrev pub cause_of : Failure → KillCause
cause_of failure.LoadFailed = cause.LoadFailed
cause_of failure.Damaged = cause.Damaged
cause_of failure.ScheduleFull = cause.ScheduleFull
cause_of failure.NoMemory = cause.NoMemory

abbrev pub stage_owes : Stage → Option machine.Event
stage_owes (Choose last) = None
stage_owes Run = None
stage_owes Rest = None
stage_owes Wait = None
stage_owes (Clear victim last) = None
stage_owes (Save victim) = Some (event.Saved victim)
stage_owes (Kill process failure) = Some (event.Kill process (cause_of failure))
stage_owes (Purge process) = Some (event.Purge process)

abbrev pub phase_of : Stage → Phase
phase_of (Choose last) = Begins last
phase_of Run = Runs
phase_of Rest = Rests
phase_of Wait = Waits
phase_of (Clear victim last) = Clears victim last
phase_of (Save victim) = Waits
phase_of (Kill process failure) = Waits
phase_of (Purge process) = Waits

abbrev pub turn_of : Turns → Turn
turn_of turns = record { slice = turns.slice; process = turns.running.process; hart = turns.running.hart; left = turns.left; wanted = turns.wanted; phase = phase_of turns.stage }

abbrev pub duty_of : Turns → Duty
duty_of turns = record { faults = turns.load_faults; owed = stage_owes turns.stage; turn = turn_of turns }
