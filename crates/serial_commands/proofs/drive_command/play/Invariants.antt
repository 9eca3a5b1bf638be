-- The ledger of the machine's frames is the one that the blank names.
use Rattle.serial_commands.proofs.drive_command.play.Given as goal

abbrev pub ghosts-play_with : goal.ghosts-play_with
ghosts-play_with a = record { name = a.blank.name; parts = a.blank.parts }
