use Rattle.std.proofs.Common.{◌≤◌, length}
use Rattle.elf_image.proofs.TouchedRanges.{Listed}
use Rattle.elf_image.proofs.touched.touched_pages.Given as goal

abbrev pub invariant-loop-segment : goal.invariant-loop-segment
invariant-loop-segment l = record {
  so_far : Listed l.loaded l.segment-index l.next l.touched.items;
  few : length l.touched.items ≤ 4032;
}
