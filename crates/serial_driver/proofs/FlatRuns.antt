-- What a run left of a machine tells of flat runs.
use Rattle.std.proofs.Common.{◌≡◌, ℕ, List, length, map, option_map, refl, sym, ap, ◌∙◌, subst}
use Rattle.std.proofs.lemmas.Option.{slice_get-map}
use Rattle.flat_machine.specs.Process.{flat_run, opening}
use Rattle.flat_machine.specs.Schedule.{written_out}
use Rattle.machine_sides.specs.FlatLines.{StandsForRun, HaveLines}
use Rattle.machine_sides.specs.Reporting.{come_to, told}
use Rattle.machine_sides.specs.declared.report.Report.{Report}
use Rattle.machine_core.specs.Applying.{LeadsTo}
use Rattle.machine_core.specs.Faithful.{IsFaithful}
use Rattle.machine_core.specs.Headline.{ShowsFlatRun}
use Rattle.machine_core.proofs.InvisibleLaws.{run_invisible}
use Rattle.machine_core.specs.Machine.{CoreValue}
use Rattle.machine_core.specs.Opening.{MachineBegins}
use Rattle.elf_image.specs.Start.{Start}
use Rattle.space_core.specs.StandsFor.{SpaceValue}
use Rattle.serial_driver.specs.FlatLines.{StandsForRuns}

module _ {S : Type 0} (held : S → List ℕ) (honest : Type 0) (failures : S → ℕ) where
  line_stands : (start : Start) (harts : List ℕ) (process : SpaceValue S) → written_out process.schedule ≡ harts → ShowsFlatRun held start.image start.input harts process
      → StandsForRun start (come_to process)
  line_stands start harts process recorded shows = record {
    flat = shows.flat;
    ran = ap (λ l. flat_run l (opening start.image start.input)) recorded ∙ shows.ran;
    steps = refl;
    output = ap (λ e. e.output) shows.environment;
    ending = shows.ending;
  }

  pub lines_stand : (frames : ℕ) (free : List S) (starts : List Start) (old new : CoreValue S) → LeadsTo held honest failures old new → IsFaithful held honest new
      → MachineBegins frames free starts old → honest → HaveLines starts (map come_to new.processes)
  lines_stand frames free starts old new reached faithful begins is_honest number start given =
      let shows = (run_invisible held honest failures reached.events reached.replies old new reached.runs faithful).whole frames free starts begins is_honest number start given in
      record {
        line = come_to shows.process;
        found = slice_get-map come_to new.processes number ∙ ap (option_map come_to) shows.found;
        stands = line_stands start _ shows.process shows.recorded shows.shows;
      }

  pub report_stands : (starts : List Start) (new : CoreValue S) (report : Report) → map told report.processes.items ≡ map come_to new.processes → HaveLines starts (map come_to new.processes) → StandsForRuns starts report
  report_stands starts new report same lines = subst (HaveLines starts) (sym same) lines
