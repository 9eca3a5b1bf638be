-- The debugger's machine is as large as was asked for, and runs the image on its input.
use Rattle.serial_commands.proofs.Begun.{begins_on}
use Rattle.serial_commands.proofs.LinesEnd.{lines_end}
use Rattle.serial_commands.proofs.debug_command.debug_paged.Goals as goal

pub returns : goal.returns
returns g c =
    let conversed = c.debug.ensures in
    lines_end c.debug.result _ (record {
      target = c.in-Ok-new.target;
      begun = begins_on c.args.frames 4096 c.in-Ok.slots.items _ c.in-Ok-new.target.core c.in-Ok.ensures c.in-Ok-new.ensures.begins;
      opens = c.in-Ok-new.ensures.opens;
      end = conversed.0;
      conversed = conversed.1;
    })
