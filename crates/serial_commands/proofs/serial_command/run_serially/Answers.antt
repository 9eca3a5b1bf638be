-- What was asked for reaches the machine, and what it came to is written.
use Rattle.std.proofs.Common.{List, map, option_map, subst}
use Rattle.elf_image.specs.Start.{Start, start_of}
use Rattle.image_files.specs.Reading.{AreGiven}
use Rattle.serial_commands.proofs.serial_command.run_serially.Goals as goal

pub returns : goal.returns
returns g c =
    let starts : List Start = map (λ start. start_of start.0 start.1.items) c.in_ok-processes.processes.items in
    let wrote = c.in_ok-status.ensures in
    record {
      starts = starts;
      report = wrote.report;
      given = subst (λ l. AreGiven g.R.Folder.gives (option_map (λ s. s.now) c.args.request.now.input) (map (λ s. s.now) l) starts) c.as_slice.ensures.value c.in_ok-processes.ensures.given;
      ran = wrote.ran;
      told = wrote.told;
      status_is = wrote.status_is;
    }
