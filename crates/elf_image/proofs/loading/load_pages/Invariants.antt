use Rattle.std.proofs.Common.{◌≡◌, map, take}
use Rattle.elf_image.specs.ElfFiles.{loaded_page}
use Rattle.elf_image.proofs.loading.load_pages.Given as goal

abbrev pub invariant-loop-number : goal.invariant-loop-number
invariant-loop-number l = l.pages.items ≡ map (loaded_page l.file l.loaded) (take l.number-index l.numbers)
