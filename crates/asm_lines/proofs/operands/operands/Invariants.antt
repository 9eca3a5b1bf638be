use Rattle.std.proofs.Common.{◌≡◌, length}
use Rattle.asm_lines.specs.Lines.{Due}
use Rattle.asm_lines.specs.Readings.{operands_on}
use Rattle.asm_lines.proofs.OperandSteps.{joined}
use Rattle.asm_lines.proofs.operands.operands.Given as goal

-- The operands so far, and those of the rest, are those of the text.
abbrev pub invariant-loop-operand : goal.invariant-loop-operand
invariant-loop-operand l = joined l.operands.items (operands_on Due l.rest) ≡ operands_on Due l.text

abbrev pub decreases-loop-operand : goal.decreases-loop-operand
decreases-loop-operand l = length l.rest
