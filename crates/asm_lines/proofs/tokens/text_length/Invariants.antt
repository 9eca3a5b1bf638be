use Rattle.std.proofs.Common.{◌≡◌, [], false, take, drop}
use Rattle.asm_lines.specs.Tokens.{tokens_from, InText}
use Rattle.asm_lines.proofs.tokens.text_length.Given as goal

-- The bytes that were passed belong to the text.
abbrev pub invariant-loop-end : goal.invariant-loop-end
invariant-loop-end l = tokens_from (InText false []) l.text ≡ tokens_from (InText l.escaped (take l.end l.text)) (drop l.end l.text)
