-- What is reported of each process, by the flat run that it represents.
use Rattle.std.specs.Prelude.{◌≡◌, ℕ, List, Vec, length, map, Some, slice_get}
use Rattle.elf_image.specs.Image.{ImageContent}
use Rattle.elf_image.specs.Start.{Start, start_of}
use Rattle.machine_sides.specs.FlatLines.{HasLine}
use Rattle.machine_sides.specs.Reporting.{told}
use Rattle.machine_sides.specs.declared.report.ProcessReport.{ProcessReport}
use Rattle.status_cell.specs.declared.status.Status.{Status}

-- the counts that are reported of a process
abbrev pub counts_of : ProcessReport → Status
counts_of report = record { steps = report.steps; output = length report.output.items }

-- each image and input that was handed in has its line
abbrev pub StandsForRuns : {Z : Type 0} → List (ImageContent × Vec ℕ Z) → List ProcessReport → Type 0
StandsForRuns {Z} handed reports =
    (number : ℕ) (given : ImageContent × Vec ℕ Z) → slice_get handed number ≡ Some given → HasLine (start_of given.0 given.1.items) number (map told reports)

-- what processes are started from that are handed in as images and inputs
abbrev pub starts_of : {Z : Type 0} → List (ImageContent × Vec ℕ Z) → List Start
starts_of handed = map (λ start. start_of start.0 start.1.items) handed
