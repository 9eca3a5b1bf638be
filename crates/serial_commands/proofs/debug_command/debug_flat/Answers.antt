-- The debugger's process is that of the image and its input.
use Rattle.serial_commands.proofs.LinesEnd.{lines_end}
use Rattle.serial_commands.proofs.debug_command.debug_flat.Goals as goal

pub returns : goal.returns
returns g c =
    let conversed = c.debug.ensures in
    lines_end c.debug.result _ (record {
      target = c.in-Ok.process;
      begun = tt {0};
      opens = c.in-Ok.ensures;
      end = conversed.0;
      conversed = conversed.1;
    })
