-- One process more is reported.
use Rattle.std.specs.Prelude.{◌≡◌, ℕ, ◌<◌, ◌++◌, [], ◌∷◌, ◌&&◌, Bool, true, List, Vec, length, map, Some, slice_get}
use Rattle.elf_image.specs.Image.{ImageContent}
use Rattle.elf_image.specs.Start.{start_of}
use Rattle.hart_carriers.specs.FlatLines.{counts_of}
use Rattle.hart_carriers.specs.declared.lines.Told.{Told}
use Rattle.machine_sides.specs.FlatLines.{HasLine, StandsForRun}
use Rattle.machine_sides.specs.Reporting.{told}
use Rattle.machine_sides.specs.declared.report.ProcessReport.{ProcessReport}
use Rattle.status_cell.specs.declared.status.Status.{Status}

-- a line was added, of the next process: it is that of a flat run of what was handed in under its number, if the process was started from that
pub record Adds {Z : Type 0} (honest : Type 0) (handed : List (ImageContent × Vec ℕ Z)) (old new : Told) : Type 0 where
  pub report : ProcessReport
  pub last : Status
  pub started : Bool
  pub added : new.processes.items ≡ old.processes.items ++ report ∷ []
  pub published : new.published.items ≡ old.published.items ++ last ∷ []
  pub all : new.started ≡ old.started && started
  pub stands : honest → started ≡ true → (given : ImageContent × Vec ℕ Z) → slice_get handed (length old.processes.items) ≡ Some given → StandsForRun (start_of given.0 given.1.items) (told report)
  pub counted : last ≡ counts_of report

-- those so far: each is that of a flat run of what was handed in under its number, if all processes were started from that
pub record ToldSoFar {Z : Type 0} (honest : Type 0) (handed : List (ImageContent × Vec ℕ Z)) (so_far : Told) : Type 0 where
  pub stands : honest → so_far.started ≡ true → (number : ℕ) (given : ImageContent × Vec ℕ Z) → number < length so_far.processes.items → slice_get handed number ≡ Some given
      → HasLine (start_of given.0 given.1.items) number (map told so_far.processes.items)
  pub last : so_far.published.items ≡ map counts_of so_far.processes.items
