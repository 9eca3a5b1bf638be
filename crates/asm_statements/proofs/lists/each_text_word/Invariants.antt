use Rattle.std.proofs.Common.{◌≡◌, drop}
use Rattle.asm_values.specs.Directives.{each_of}
use Rattle.asm_statements.specs.Lists.{text_word}
use Rattle.asm_values.proofs.EachLaws.{continued}
use Rattle.asm_statements.proofs.lists.each_text_word.Given as goal

abbrev pub invariant-loop-operand : goal.invariant-loop-operand
invariant-loop-operand l =
    each_of text_word l.operands ≡ continued l.words.items (each_of text_word (drop l.operand-index l.operands))
