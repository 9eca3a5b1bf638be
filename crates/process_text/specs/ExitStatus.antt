-- The exit status of the program.
use Rattle.std.specs.Prelude.{ℕ, ◌==◌, if◌then◌else◌, Option, Some, None}
use Rattle.flat_machine.specs.declared.end.End.{End}
use Rattle.flat_machine.specs.declared.end.End.TheVariants.{Exited, Trapped, Killed}
use Rattle.flat_machine.specs.declared.end.KillCause.TheVariants.{Limit}

-- of a run of one process: 0 where it exited with 0, 3 where it was killed, else 1
abbrev pub exit_status : End → ℕ
exit_status (Exited status) = if status == 0 then 0 else 1
exit_status (Trapped hart cause pc value) = 1
exit_status (Killed cause) = 3

-- how a process ended that is reported to have come to this: one that goes on was stopped at the limit
abbrev pub ending_of : Option End → End
ending_of None = Killed Limit
ending_of (Some end) = end
