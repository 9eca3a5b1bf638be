use Rattle.command_line.specs.Commands.{drive_app}
use Rattle.command_line.proofs.commands.drive.Goals as goal

pub returns : goal.returns
unfolding drive_app
returns c = c.with_files.ensures _ (c.with_file-command.ensures _ (c.sized-command.ensures _ (c.named.ensures)))
