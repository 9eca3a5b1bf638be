-- What was read, what the machine reported, what is written and what the record says.
use Rattle.std.proofs.Common.{ap, subst, refl, ◌∙◌}
use Rattle.std.specs.Io.KnownBytes.{Appends}
use Rattle.run_records.specs.Prints.{print_of}
use Rattle.run_records.specs.Records.{value_of}
use Rattle.run_recorder.specs.Recorded.{Saves}
use Rattle.run_recorder.proofs.command.run_record.Goals as goal

pub returns-clause-recorded : goal.returns-clause-recorded
returns-clause-recorded g c =
    let report = c.in_ok-report.report in
    let saves : Saves g.R.Folder.gives g.R.WholeFiles.takes c.args.request.now (g.I.Read.remaining c.args.input) report (value_of c.in_ok-told.told) = record {
      file = c.in_ok-file.file.items;
      image = c.in_ok-image.image;
      input = c.in_ok-input.input.items;
      given = rw (← c.as_slice.ensures.value) c.in_ok-file.ensures.given;
      holds = c.in_ok-image.ensures.image;
      whole = c.in_ok-input.ensures.whole;
      ran = c.in_ok-report.ensures.ran;
      flat = c.in_ok-report.ensures.flat;
      tells = c.in_ok-told.ensures.tells c.in_ok-file.file.items c.in_ok-input.input.items
          (c.take_fingerprint-image_print.ensures ∙ ap print_of c.as_slice-2.ensures.value)
          (c.take_fingerprint-input_print.ensures ∙ ap print_of c.as_slice-3.ensures.value);
      saved = c.in_ok-bytes.ensures.saved;
    } in
    record {
      report = report;
      told_as = value_of c.in_ok-told.told;
      saves = saves;
      written = subst (Appends (g.O.Write.contents c.args.out.now) (g.O.Write.contents c.write_output-written.new.out)) (c.as_slice-4.ensures.value ∙ ap (λ v. v.items) c.in_ok-told.ensures.output) c.in-Ok.ensures;
      status_is = c.status_of.ensures;
    }

pub returns-in_default-clause-kept : goal.returns-in_default-clause-kept
returns-in_default-clause-kept g c =
    let report = c.in_ok-report.report in
    let saves : Saves g.R.Folder.gives g.R.WholeFiles.takes c.args.request.now (g.I.Read.remaining c.args.input) report (value_of c.in_ok-told.told) = record {
      file = c.in_ok-file.file.items;
      image = c.in_ok-image.image;
      input = c.in_ok-input.input.items;
      given = rw (← c.as_slice.ensures.value) c.in_ok-file.ensures.given;
      holds = c.in_ok-image.ensures.image;
      whole = c.in_ok-input.ensures.whole;
      ran = c.in_ok-report.ensures.ran;
      flat = c.in_ok-report.ensures.flat;
      tells = c.in_ok-told.ensures.tells c.in_ok-file.file.items c.in_ok-input.input.items
          (c.take_fingerprint-image_print.ensures ∙ ap print_of c.as_slice-2.ensures.value)
          (c.take_fingerprint-input_print.ensures ∙ ap print_of c.as_slice-3.ensures.value);
      saved = c.in_ok-bytes.ensures.saved;
    } in
    (refl, (report, (value_of c.in_ok-told.told, saves)))
