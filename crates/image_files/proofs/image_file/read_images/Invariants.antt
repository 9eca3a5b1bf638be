use Rattle.std.proofs.Common.{None, map, take}
use Rattle.elf_image.specs.Start.{start_of}
use Rattle.image_files.specs.Reading.{AreGiven}
use Rattle.image_files.proofs.image_file.read_images.Given as goal

-- The images so far are read.
abbrev pub invariant-loop-name : goal.invariant-loop-name
invariant-loop-name g l = AreGiven g.R.Folder.gives None (map (λ s. s.now) (take l.name-index l.images)) (map (λ start. start_of start.0 start.1.items) l.processes.items)
