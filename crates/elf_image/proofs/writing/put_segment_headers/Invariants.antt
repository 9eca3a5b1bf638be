use Rattle.std.proofs.Common.{◌≡◌, ◌++◌, take, flat_map}
use Rattle.elf_image.specs.WrittenFiles.{segment_header}
use Rattle.elf_image.proofs.writing.put_segment_headers.Given as goal

abbrev pub invariant-loop-run : goal.invariant-loop-run
invariant-loop-run l = l.file.items ≡ l.initial.file.items ++ flat_map (segment_header l.start) (take l.run-index l.segments)
