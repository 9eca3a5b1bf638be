use Rattle.std.proofs.Common.{◌≡◌, ◌*◌, ◌-◌, ◌++◌, take, replicate}
use Rattle.elf_image.specs.Image.{bytes_of, readable_code}
use Rattle.elf_image.proofs.words.page_with_words.Given as goal

abbrev pub invariant-loop-word : goal.invariant-loop-word
invariant-loop-word l = record {
  at : l.address ≡ 4 * l.word-index;
  rights : l.page.rights ≡ readable_code;
  bytes : l.page.bytes ≡ bytes_of (take l.word-index l.words) ++ replicate (4096 - 4 * l.word-index) 0;
}
