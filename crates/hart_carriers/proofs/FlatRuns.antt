-- What is reported of a process is what a flat run comes to.
use Rattle.std.proofs.Common.{◌≡◌, ℕ, Bool, true, false, List, length, ap, sym, ◌∙◌}
use Rattle.std.specs.Bool.{OnTrue}
use Rattle.elf_image.specs.Start.{Start}
use Rattle.flat_machine.specs.Schedule.{written_out}
use Rattle.hart_carriers.specs.Counts.{status_of}
use Rattle.hart_carriers.specs.FlatLines.{counts_of}
use Rattle.machine_sides.specs.FlatLines.{StandsForRun}
use Rattle.machine_sides.specs.Reporting.{Told, come_to, told}
use Rattle.machine_sides.specs.declared.report.ProcessReport.{ProcessReport}
use Rattle.space_core.specs.StandsFor.{SpaceValue, StandsFor, flat_with, own_ending}
use Rattle.status_cell.specs.declared.status.Status.{Status}

-- what holds where a test says so
pub on_true : (test : Bool) (P : Type 0) → OnTrue test P → test ≡ true → P
on_true true P holds is = holds
on_true false P holds is = absurd (cc)

module _ {S : Type 0} (held : S → List ℕ) where
  -- what is reported of a process that stands for a flat run, which was started from this
  pub stands_for_run : (start : Start) (space : SpaceValue S) (line : Told) → StandsFor held space → start.image ≡ space.image → start.input ≡ space.input → line ≡ come_to space → StandsForRun start line
  stands_for_run start space line stands image input is =
      let turns : line.turns ≡ space.schedule = ap (λ (t : Told). t.turns) is in
      record {
        flat = flat_with space.running stands.memory;
        ran = rw (image, input, turns) stands.ran;
        steps = ap (λ (t : Told). t.steps) is ∙ sym (ap (λ l. length (written_out l)) turns);
        output = ap (λ (t : Told). t.output) is;
        ending = ap (λ (t : Told). own_ending t.end) is;
      }

  pub counted : (space : SpaceValue S) (report : ProcessReport) (last : Status) → told report ≡ come_to space → last ≡ status_of space → last ≡ counts_of report
  unfolding status_of
  counted space report last is now =
      let steps : report.steps ≡ length (written_out space.schedule) = ap (λ (t : Told). t.steps) is in
      let output : report.output.items ≡ space.running.environment.output = ap (λ (t : Told). t.output) is in
      let many : length report.output.items ≡ length space.running.environment.output = ap (λ (l : List ℕ). length l) output in
      cc
