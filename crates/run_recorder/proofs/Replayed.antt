-- A record of a run replays.
use Rattle.std.proofs.Common.{◌≡◌, ℕ, List, length, Option, Some, None, unwrap_or, refl, sym, ap, ◌∙◌, subst}
use Rattle.elf_image.specs.Start.{Start}
use Rattle.flat_machine.specs.Process.{flat_run, opening}
use Rattle.flat_machine.specs.Schedule.{written_out}
use Rattle.flat_machine.specs.declared.end.End.{End}
use Rattle.flat_machine.specs.declared.end.End.TheVariants.{Exited, Trapped, Killed}
use Rattle.flat_machine.specs.declared.end.KillCause.TheVariants.{Limit}
use Rattle.machine_sides.specs.FlatLines.{StandsForRun}
use Rattle.machine_sides.specs.Reporting.{told}
use Rattle.machine_sides.specs.declared.report.ProcessReport.{ProcessReport}
use Rattle.run_records.specs.Prints.{print_of}
use Rattle.run_records.specs.Records.{RecordValue}
use Rattle.run_records.specs.Replaying.{EndsLike, Replays}
use Rattle.run_records.proofs.Refusing.{only_memory, same_end}
use Rattle.run_records.proofs.RoundTripLaws.{written_read}
use Rattle.space_core.specs.StandsFor.{own_ending}
use Rattle.run_recorder.specs.Recorded.{ReplaysTo, TellsReport}

-- the ending of a flat process by what was reported: its own, or it goes on where the machine ended it
ends_like : (end own : Option End) → own_ending end ≡ own → EndsLike (unwrap_or end (Killed Limit)) own
ends_like None own is = subst (EndsLike (Killed Limit)) is tt
ends_like (Some (Exited status)) own is = subst (EndsLike (Exited status)) is refl
ends_like (Some (Trapped hart cause pc value)) own is = subst (EndsLike (Trapped hart cause pc value)) is refl
ends_like (Some (Killed cause)) own is = subst (EndsLike (Killed cause)) is tt

pub recorded_is_replayed : (start : Start) (file input : List ℕ) (report : ProcessReport) (record_told : RecordValue) → StandsForRun start (told report)
    → TellsReport file input report record_told → ReplaysTo start report record_told
recorded_is_replayed start file input report record_told stands tells =
    let replays : Replays record_told (opening start.image start.input) stands.flat = record {
      ran = ap (λ turns. flat_run (written_out turns) (opening start.image start.input)) tells.turns_are ∙ stands.ran;
      steps = ap (λ turns. length (written_out turns)) tells.turns_are ∙ sym stands.steps ∙ sym tells.steps_are;
      ended = subst (λ e. EndsLike e stands.flat.ending) (sym tells.end_is) (ends_like report.end stands.flat.ending stands.ending);
      output = ap print_of (sym stands.output) ∙ sym tells.output_is;
    } in record {
      flat = stands.flat;
      replays = replays;
      output = sym stands.output;
      read = written_read record_told tells.fits;
      accepted = λ fault after stops. only_memory record_told (opening start.image start.input) stands.flat after fault tells.joined replays stops;
      only = λ after again. same_end record_told (opening start.image start.input) after stands.flat again replays;
    }
