use Rattle.command_line.specs.Commands.{asm_app}
use Rattle.command_line.proofs.commands.asm.Goals as goal

pub returns : goal.returns
unfolding asm_app
returns c = c.with_file.ensures _ (c.with_file-command.ensures _ (c.named-command.ensures))
