-- When two statements do the same.
use Rattle.std.specs.Prelude.{◌≡◌, ℕ, List}
use Rattle.asm_lines.specs.declared.operand.Operand.{Operand}
use Rattle.asm_statements.specs.declared.section.Section.{Section}
use Rattle.asm_statements.specs.Statements.{statement_effect}

-- a name with its operands does in each section what another does with its own, or has the same fault
abbrev pub DoesTheSame : List ℕ → List Operand → List ℕ → List Operand → Type 0
DoesTheSame name operands other others = (section : Section) → statement_effect section name operands ≡ statement_effect section other others
