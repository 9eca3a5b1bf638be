-- What a process came to is written.
use Rattle.flat_commands.proofs.Reported.{ended}
use Rattle.flat_commands.proofs.flat_command.run_to_end.Goals as goal

pub returns-in-Ok : goal.returns-in-Ok
returns-in-Ok g c = ended _ _ _ _ _ _ c.write_end.result c.in-Ok.ensures.ran c.in-Ok.ensures.within c.in-Ok.ensures.ended c.write_end.ensures.told c.write_end.ensures.status
