use Rattle.std.proofs.Common.{◌≡◌, ◌-◌, ◌^◌, map, min, take}
use Rattle.guest_words.specs.Words.{size_of}
use Rattle.guest_words.proofs.layout.size_of.Given as goal

abbrev pub invariant-loop-word : goal.invariant-loop-word
invariant-loop-word l = l.size ≡ min (size_of (map (λ s. s.now) (take l.word-index l.words))) (2 ^ 64 - 1)
