-- How far a process has come.
use Rattle.std.specs.Prelude.{length}
use Rattle.flat_machine.specs.Schedule.{written_out}
use Rattle.space_core.specs.StandsFor.{SpaceValue}
use Rattle.status_cell.specs.declared.status.Status.{Status}

-- how many instructions it has completed, and how many bytes it has written
unfoldable pub status_of : {S : Type 0} → SpaceValue S → Status
status_of space = record { steps = length (written_out space.schedule); output = length space.running.environment.output }
