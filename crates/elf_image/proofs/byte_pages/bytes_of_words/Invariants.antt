use Rattle.std.proofs.Common.{◌≡◌, take}
use Rattle.elf_image.specs.Image.{bytes_of}
use Rattle.elf_image.proofs.byte_pages.bytes_of_words.Given as goal

abbrev pub invariant-loop-word : goal.invariant-loop-word
invariant-loop-word l = l.bytes.items ≡ bytes_of (take l.word-index l.words)
