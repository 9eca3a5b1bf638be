-- What is reported of each process, by the flat run that it represents.
use Rattle.std.specs.Prelude.{◌≡◌, ℕ, List, length, Some, slice_get}
use Rattle.elf_image.specs.Start.{Start}
use Rattle.flat_machine.specs.Process.{Process, opening, flat_run}
use Rattle.flat_machine.specs.Schedule.{written_out}
use Rattle.machine_sides.specs.Reporting.{Told}
use Rattle.space_core.specs.StandsFor.{own_ending}

-- A line reports a flat run of this image on this input. The reported turns have the reported number of steps, and lead to a flat
-- process. It has the reported output and the reported ending, except that a process that the machine killed goes on there.
pub record StandsForRun (start : Start) (line : Told) : Type 0 where
  pub flat : Process
  pub ran : flat_run (written_out line.turns) (opening start.image start.input) ≡ Some flat
  pub steps : line.steps ≡ length (written_out line.turns)
  pub output : line.output ≡ flat.environment.output
  pub ending : own_ending line.end ≡ flat.ending

-- the line of a number reports a run of the start of that number
pub record HasLine (start : Start) (number : ℕ) (lines : List Told) : Type 0 where
  pub line : Told
  pub found : slice_get lines number ≡ Some line
  pub stands : StandsForRun start line

-- and so for each start
abbrev pub HaveLines : List Start → List Told → Type 0
HaveLines starts lines = (number : ℕ) (start : Start) → slice_get starts number ≡ Some start → HasLine start number lines
