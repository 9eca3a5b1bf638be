-- What a line does.
use Rattle.std.specs.Prelude.{ℕ, List, Option, Some, None, Result, Ok}
use Rattle.asm_lines.specs.Forms.{SourceLine}
use Rattle.asm_lines.specs.declared.fault.FaultKind.{FaultKind}
use Rattle.asm_lines.specs.declared.operand.Operand.{Operand}
use Rattle.asm_statements.specs.declared.section.Section.{Section}
use Rattle.asm_statements.specs.Effects.{StatementEffect, Enter}
use Rattle.asm_statements.specs.Statements.{statement_effect}

-- what a line does in a section: a line with no statement stays there
abbrev pub effect_of_name : Section → List Operand → Option (List ℕ) → Result StatementEffect FaultKind
effect_of_name section operands None = Ok (Enter section)
effect_of_name section operands (Some name) = statement_effect section name operands

abbrev pub line_effect : Section → SourceLine → Result StatementEffect FaultKind
line_effect section line = effect_of_name section line.operands line.name
