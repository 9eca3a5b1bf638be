use Rattle.command_line.specs.Commands.{clock_app}
use Rattle.command_line.proofs.commands.clock.Goals as goal

pub returns : goal.returns
unfolding clock_app
returns c = c.with_file.ensures _ (c.with_file-command.ensures _ (c.named-command.ensures))
