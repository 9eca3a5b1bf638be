-- The ledger of the machine's frames is the one that the blank names.
use Rattle.serial_commands.proofs.debug_command.debug_on.Given as goal

abbrev pub ghosts-debug_paged : goal.ghosts-debug_paged
ghosts-debug_paged g a = record { name = a.blank.name; parts = a.blank.parts }
