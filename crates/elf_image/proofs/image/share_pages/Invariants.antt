use Rattle.std.proofs.Common.{◌≡◌, take}
use Rattle.elf_image.proofs.image.share_pages.Given as goal

abbrev pub invariant-loop-listed : goal.invariant-loop-listed
invariant-loop-listed l = l.shared.items ≡ take l.listed-index l.pages
