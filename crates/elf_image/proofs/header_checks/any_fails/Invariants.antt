use Rattle.std.proofs.Common.{◌≡◌, false, length, map}
use Rattle.std.specs.List.{range_with_len, list_any}
use Rattle.elf_image.specs.HeaderTests.{fails}
use Rattle.elf_image.proofs.Headers.{header_of}
use Rattle.elf_image.proofs.header_checks.any_fails.Given as goal

abbrev pub invariant-loop-place : goal.invariant-loop-place
invariant-loop-place l = list_any (fails l.test (length l.file)) (map (header_of l.file) (range_with_len 0 l.place)) ≡ false
