use Rattle.std.proofs.Common.{◌≡◌, map}
use Rattle.std.specs.List.{range_with_len}
use Rattle.elf_image.specs.Image.{word_page}
use Rattle.elf_image.proofs.words.pages_of_words.Given as goal

abbrev pub invariant-loop-place : goal.invariant-loop-place
invariant-loop-place l = l.pages.items ≡ map (word_page l.words) (range_with_len 0 l.place)
