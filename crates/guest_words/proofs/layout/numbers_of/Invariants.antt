use Rattle.std.proofs.Common.{◌≡◌, ◌+◌, ◌∷◌, length, map, take}
use Rattle.guest_words.specs.Words.{head_size, places_from, texts_of}
use Rattle.guest_words.proofs.layout.numbers_of.Given as goal

abbrev pub invariant-loop-word : goal.invariant-loop-word
invariant-loop-word l = record {
  numbers : l.numbers.items ≡ length l.words ∷ places_from (l.address + head_size (length l.words)) (map (λ s. s.now) (take l.word-index l.words));
  place : l.place ≡ l.address + head_size (length l.words) + length (texts_of (map (λ s. s.now) (take l.word-index l.words)));
}
