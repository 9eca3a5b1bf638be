use Rattle.std.proofs.Common.{◌≤◌}
use Rattle.std.specs.List.{AllAdjacentBelow}
use Rattle.elf_image.specs.ElfFiles.{end_of}
use Rattle.elf_image.proofs.segments.do_overlap.Given as goal

abbrev pub invariant-loop-place : goal.invariant-loop-place
invariant-loop-place l = AllAdjacentBelow (λ one other. end_of one ≤ other.address) l.loaded l.place
