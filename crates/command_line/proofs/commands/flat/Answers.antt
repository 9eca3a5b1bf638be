use Rattle.command_line.specs.Commands.{flat_app}
use Rattle.command_line.proofs.commands.flat.Goals as goal

pub returns : goal.returns
unfolding flat_app
returns c = c.with_file.ensures _ (c.with_option-command-2.ensures _ (c.with_option-command.ensures _ (c.named-command.ensures)))
