-- What is reported of each process, by the flat run that it represents.
use Rattle.std.specs.Prelude.{List, map}
use Rattle.elf_image.specs.Start.{Start}
use Rattle.machine_sides.specs.FlatLines.{HaveLines}
use Rattle.machine_sides.specs.Reporting.{told}
use Rattle.machine_sides.specs.declared.report.Report.{Report}

-- the lines of a report represent flat runs of these starts
abbrev pub StandsForRuns : List Start → Report → Type 0
StandsForRuns starts report = HaveLines starts (map told report.processes.items)
