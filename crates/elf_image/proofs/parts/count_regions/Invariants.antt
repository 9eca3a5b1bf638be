use Rattle.std.proofs.Common.{◌≡◌, ◌≤◌, length, take}
use Rattle.elf_image.specs.Regions.{regions}
use Rattle.elf_image.proofs.RisingLaws.{last_region}
use Rattle.elf_image.proofs.parts.count_regions.Given as goal

abbrev pub invariant-loop-listed : goal.invariant-loop-listed
invariant-loop-listed l = record {
  count : l.count ≡ length (regions (take l.listed-index l.pages));
  few : l.count ≤ l.listed-index;
  last : l.last ≡ last_region (take l.listed-index l.pages);
}
