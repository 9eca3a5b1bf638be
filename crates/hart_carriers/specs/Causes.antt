-- For which cause the machine ends a process.
use Rattle.std.specs.Prelude.{ℕ, nat_le, Option, Some, None, if◌then◌else◌}
use Rattle.flat_machine.specs.declared.end.KillCause.{KillCause}
use Rattle.flat_machine.specs.declared.end.KillCause.TheVariants as cause
use Rattle.space_core.specs.declared.progress.SliceStop.{SliceStop}
use Rattle.space_core.specs.declared.progress.SliceStop.TheVariants as stop

-- after a slice that stopped so, if for any
abbrev pub cause_of_stop : SliceStop → Option KillCause
cause_of_stop stop.Budget = None
cause_of_stop (stop.Absent page) = None
cause_of_stop stop.Yield = None
cause_of_stop stop.HartDone = None
cause_of_stop stop.Ended = None
cause_of_stop stop.NoHart = None
cause_of_stop stop.ScheduleFull = Some cause.ScheduleFull
cause_of_stop stop.NoMemory = Some cause.NoMemory

-- after a device has failed so often in a row to load a page: from the third time on
abbrev pub cause_of_failures : ℕ → Option KillCause
cause_of_failures count = if nat_le 3 count then Some cause.LoadFailed else None
