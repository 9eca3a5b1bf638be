use Rattle.std.proofs.Common.{◌≡◌, ◌++◌, map, take}
use Rattle.guest_words.specs.Words.{texts_of}
use Rattle.guest_words.proofs.layout.add_texts.Given as goal

abbrev pub invariant-loop-word : goal.invariant-loop-word
invariant-loop-word l = l.bytes.items ≡ l.fn.bytes.items ++ texts_of (map (λ s. s.now) (take l.word-index l.words))
