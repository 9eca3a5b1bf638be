-- The ledger of the machine's frames is the one that the blank names.
use Rattle.guest_frames.proofs.playing.play_process.Given as goal

abbrev pub ghosts-play_on : goal.ghosts-play_on
ghosts-play_on a = record { name = a.blank.name; parts = a.blank.parts }
