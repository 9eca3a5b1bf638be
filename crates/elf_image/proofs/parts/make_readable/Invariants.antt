use Rattle.std.proofs.Common.{◌≡◌, ◌++◌, map, take, drop}
use Rattle.elf_image.specs.Parts.{readable_page}
use Rattle.elf_image.proofs.parts.make_readable.Given as goal

abbrev pub invariant-loop-listed : goal.invariant-loop-listed
invariant-loop-listed l = l.pages ≡ map readable_page (take l.listed-index l.initial.pages) ++ drop l.listed-index l.initial.pages
