-- What a process's lock protects, and the pair that is published of it.
use Rattle.std.specs.Prelude.{ℕ, Bool, true, false, length, Option}
use Rattle.flat_machine.specs.Schedule.{written_out}
use Rattle.pager_core.specs.Pager.{tallied}
use Rattle.space_core.specs.StandsFor.{SpaceValue}
use Rattle.status_cell.specs.WriterValue.{WriterValue}
use Rattle.status_cell.specs.declared.status.Status.{Status}

-- the process; the writer of its counts; how often its pages were tried for since its last completed instruction; how many of its pages were
-- cleaned ahead; and the hart that is pressed, if one is: until an instruction has run no other hart of the process runs
pub record HeldValue (S : Type 0) : Type 0 where
  pub side : SpaceValue S
  pub writer : WriterValue
  pub tries : ℕ
  pub cleans : ℕ
  pub pressed : Option ℕ

-- how many instructions a process has completed, and how many bytes it has written
unfoldable pub status_of : {S : Type 0} → SpaceValue S → Status
status_of space = record { steps = length (written_out space.schedule); output = length space.running.environment.output }

-- the tries after one more, if there was one
abbrev pub tried_if : Bool → ℕ → ℕ
tried_if true tries = tallied tries
tried_if false tries = tries
