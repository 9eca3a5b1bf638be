use Rattle.std.proofs.Common.{◌≡◌, ◌++◌, take}
use Rattle.elf_image.specs.WrittenFiles.{page_bytes}
use Rattle.elf_image.proofs.writing.put_pages.Given as goal

abbrev pub invariant-loop-listed : goal.invariant-loop-listed
invariant-loop-listed l = l.file.items ≡ l.initial.file.items ++ page_bytes (take l.listed-index l.pages)
