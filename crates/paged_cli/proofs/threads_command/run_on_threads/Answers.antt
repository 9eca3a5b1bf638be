-- What was asked for reaches the machine, and what it came to is written.
use Rattle.std.proofs.Common.{List, map, ap, option_map, subst, sym, ◌∙◌}
use Rattle.machine_sides.specs.declared.report.ProcessReport.{ProcessReport}
use Rattle.elf_image.specs.Start.{Start}
use Rattle.report_text.specs.RunStatus.{worst_status}
use Rattle.image_files.specs.Reading.{AreGiven}
use Rattle.hart_carriers.specs.FlatLines.{starts_of}
use Rattle.paged_cli.proofs.threads_command.run_on_threads.Goals as goal

pub returns : goal.returns
returns g c =
    let starts : List Start = starts_of c.in_ok-processes.processes.items in
    let given = subst (λ l. AreGiven g.R.Folder.gives (option_map (λ s. s.now) c.args.request.now.input) (map (λ s. s.now) l) starts) c.as_slice.ensures.value c.in_ok-processes.ensures.given in
    record {
      starts = starts_of c.as_slice-2.result.now;
      run = c.in_ok-run.run';
      given = subst (λ l. AreGiven g.R.Folder.gives (option_map (λ s. s.now) c.args.request.now.input) (map (λ s. s.now) c.args.request.now.images.items) (starts_of l))
          (sym c.as_slice-2.ensures.value) given;
      ran_as = c.in_ok-run.ensures;
      written = c.in_ok-write_report.ensures;
      status_is = c.status_of_all.ensures ∙ ap (λ (l : List ProcessReport). worst_status 0 (map (λ process. process.end) l)) c.as_slice-3.ensures.value;
    }
