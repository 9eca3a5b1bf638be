-- What a machine of one process is told to have come to is what its process came to.
use Rattle.std.proofs.Common.{◌≡◌, ℕ, List, [], ◌∷◌, Some, map, slice_get, refl, sym, ap, ◌∙◌, subst}
use Rattle.elf_image.specs.Start.{Start}
use Rattle.machine_sides.specs.FlatLines.{HaveLines, StandsForRun}
use Rattle.machine_sides.specs.Reporting.{Told, come_to, told}
use Rattle.machine_sides.specs.declared.report.ProcessReport.{ProcessReport}
use Rattle.space_core.specs.StandsFor.{SpaceValue}

-- a report is of this process, the first of them
pub record HasCome {S : Type 0} (processes : List (SpaceValue S)) (report : ProcessReport) : Type 0 where
  pub process : SpaceValue S
  pub found : slice_get processes 0 ≡ Some process
  pub same : told report ≡ come_to process

pub come_first : {S : Type 0} (items : List ProcessReport) (processes : List (SpaceValue S)) (report : ProcessReport) → map told items ≡ map come_to processes → slice_get items 0 ≡ Some report → HasCome processes report
come_first [] processes report same at = absurd (cc)
come_first (item ∷ items) [] report same at = absurd (cc)
come_first (item ∷ items) (process ∷ processes) report same at = record { process = process; found = refl; same = cc }

-- the first line is the first process's
first_told : (items : List ProcessReport) (process : ProcessReport) (line : Told) → slice_get items 0 ≡ Some process → slice_get (map told items) 0 ≡ Some line → line ≡ told process
first_told [] process line at found = absurd (cc)
first_told (item ∷ items) process line at found = cc

-- the first process's line stands for a flat run
pub line_stands : (start : Start) (lines : List Told) (items : List ProcessReport) (process : ProcessReport) → HaveLines (start ∷ []) lines → map told items ≡ lines → slice_get items 0 ≡ Some process
    → StandsForRun start (told process)
line_stands start lines items process have same at =
    let has = have 0 start refl in
    let found : slice_get (map told items) 0 ≡ Some has.line = ap (λ l. slice_get l 0) same ∙ has.found in
    subst (StandsForRun start) (first_told items process has.line at found) has.stands
