use Rattle.std.proofs.Common.{◌≡◌, ℕ, List, ◌++◌, take, drop}
use Rattle.asm_lines.specs.Tokens.{tokens_from, InWord}
use Rattle.asm_lines.proofs.tokens.name_length.Given as goal

-- The bytes that were passed belong to the word.
abbrev pub invariant-loop-end : goal.invariant-loop-end
invariant-loop-end l = (word : List ℕ) → tokens_from (InWord word) l.text ≡ tokens_from (InWord (word ++ take l.end l.text)) (drop l.end l.text)
