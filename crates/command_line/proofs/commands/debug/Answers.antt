use Rattle.command_line.specs.Commands.{debug_app}
use Rattle.command_line.proofs.commands.debug.Goals as goal

pub returns : goal.returns
unfolding debug_app
returns c = c.with_file.ensures _ (c.with_option-command.ensures _ (c.named-command.ensures))
