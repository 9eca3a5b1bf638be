use Rattle.parts_acceptance.proofs.frames.copies_into_its_own_room.Given as goal

abbrev pub ghosts-copy_one : goal.ghosts-copy_one
ghosts-copy_one g a = record { name = a.blank.name; parts = a.blank.parts }
