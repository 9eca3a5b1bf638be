-- The ledger of the machine's frames is the one that the blank names.
use Rattle.serial_commands.proofs.serial_command.run.Given as goal

abbrev pub ghosts-run_with : goal.ghosts-run_with
ghosts-run_with g a = record { name = a.blank.name; parts = a.blank.parts }
