use Rattle.std.proofs.Common.{◌≡◌, ◌≤◌, ◌*◌, length, drop}
use Rattle.elf_image.specs.ElfFiles.{loaded_byte, bytes_between}
use Rattle.elf_image.proofs.loading.fill.Given as goal

abbrev pub invariant-loop-left : goal.invariant-loop-left
invariant-loop-left l = record {
  within : l.left ≤ length l.run;
  rights : l.page.rights ≡ l.fn.page.rights;
  bytes : l.page.bytes ≡ bytes_between (loaded_byte l.file (drop l.left l.run)) (4096 * l.number) 4096;
}

abbrev pub decreases-loop-left : goal.decreases-loop-left
decreases-loop-left l = l.left
