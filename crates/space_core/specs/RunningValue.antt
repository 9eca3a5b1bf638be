-- A process beside its memory: with a memory, it is a process on flat memory.
use Rattle.std.specs.Prelude.{List, Option}
use Rattle.page_memory.specs.Memory.{Memory}
use Rattle.rv_exec.specs.Registers.{Registers}
use Rattle.env_calls.specs.Environment.{Environment}
use Rattle.flat_machine.specs.declared.end.End.{End}
use Rattle.flat_machine.specs.declared.schedule.Turn.{Turn}
use Rattle.flat_machine.specs.Process.{Process}

pub record RunningValue : Type 0 where
  -- the registers of each hart that was started, by its number
  pub harts : List Registers
  pub environment : Environment
  -- how it ended, if it did
  pub ending : Option End

abbrev pub with_memory : RunningValue → Memory → Process
with_memory running memory = record { harts = running.harts; environment = running.environment; memory = memory; ending = running.ending }

-- what a process on flat memory is beside its memory
abbrev pub beside : Process → RunningValue
beside process = record { harts = process.harts; environment = process.environment; ending = process.ending }

-- the same with the schedule of the instructions that ran
pub record RecordedValue : Type 0 where
  pub running : RunningValue
  pub schedule : List Turn
