use Rattle.command_line.specs.Commands.{run_app}
use Rattle.command_line.proofs.commands.run.Goals as goal

pub returns : goal.returns
unfolding run_app
returns c = c.with_files.ensures _ (c.flagged.ensures _ (c.with_option-command-2.ensures _ (c.with_option-command.ensures _ (c.paced-command.ensures _ (c.sized.ensures _ (c.named.ensures))))))
