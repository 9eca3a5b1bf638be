use Rattle.std.proofs.Common.{◌≡◌, map}
use Rattle.std.specs.List.{range_with_len, filter}
use Rattle.elf_image.specs.Segments.{is_segment}
use Rattle.elf_image.proofs.Headers.{header_of}
use Rattle.elf_image.proofs.segments.segments.Given as goal

abbrev pub invariant-loop-place : goal.invariant-loop-place
invariant-loop-place l = l.loaded.items ≡ filter is_segment (map (header_of l.file) (range_with_len 0 l.place))
