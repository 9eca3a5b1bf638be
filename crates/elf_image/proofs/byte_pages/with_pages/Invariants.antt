use Rattle.std.proofs.Common.{◌≡◌, ◌++◌, map}
use Rattle.std.specs.List.{range_with_len}
use Rattle.elf_image.specs.BytePages.{nth_page}
use Rattle.elf_image.proofs.byte_pages.with_pages.Given as goal

abbrev pub invariant-loop-place : goal.invariant-loop-place
invariant-loop-place l = l.pages.items ≡ l.fn.pages.items ++ map (nth_page l.first l.rights l.bytes) (range_with_len 0 l.place)
