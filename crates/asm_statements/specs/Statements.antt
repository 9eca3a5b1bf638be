-- What a statement does in a section.
-- The faults in their order: a name that the assembler does not know; operands that are others in number or kind than
-- the statement's, an unknown register, or a statement of the other section; a number that its field does not take.
use Rattle.std.specs.Prelude.{ℕ, List, [], ◌∷◌, Option, Some, None, option_map, Result, Ok, Err, codes}
use Rattle.std.specs.Option.{option_or}
use Rattle.asm_statements.specs.Effects.{StatementEffect, Enter, Text, Data}
use Rattle.asm_lines.specs.declared.operand.Operand.{Operand}
use Rattle.asm_statements.specs.declared.section.Section.{Section}
use Rattle.asm_statements.specs.declared.section.Section.TheVariants as section
use Rattle.asm_lines.specs.declared.fault.FaultKind.{FaultKind}
use Rattle.asm_lines.specs.declared.fault.FaultKind.TheVariants.{UnknownName, Operand as BadOperand}
use Rattle.asm_values.specs.declared.data.Size.TheVariants.{Word, Half, Byte}
use Rattle.asm_statements.specs.declared.statement.Statement.{Statement}
use Rattle.asm_statements.specs.declared.statement.Statement.TheVariants as statement
use Rattle.asm_values.specs.Names.{named}
use Rattle.asm_statements.specs.Mnemonics.{mnemonic_of}
use Rattle.asm_values.specs.Answers.{map_ok}
use Rattle.asm_statements.specs.Instructions.{code_of, load_immediate}
use Rattle.asm_values.specs.Directives.{values, data_value, ascii, space}
use Rattle.asm_statements.specs.Lists.{text_word}

-- the directives, and the one instruction that may be two
abbrev pub directives : List (List ℕ × Statement)
directives =
    (codes ".text", statement.Enter section.Text) ∷ (codes ".data", statement.Enter section.Data)
    ∷ (codes ".word", statement.Values Word) ∷ (codes ".half", statement.Values Half)
    ∷ (codes ".byte", statement.Values Byte) ∷ (codes ".ascii", statement.Ascii) ∷ (codes ".space", statement.Space)
    ∷ (codes "li", statement.LoadImmediate) ∷ []

-- what a name means
unfoldable pub statement_of : List ℕ → Option Statement
statement_of name = option_or (named directives name) (option_map statement.Code (mnemonic_of name))

-- `.text` and `.data`
unfoldable pub enter : Section → List Operand → Result StatementEffect FaultKind
enter into [] = Ok (Enter into)
enter into _ = Err BadOperand

-- what a statement of the text does
unfoldable pub in_text : Statement → List Operand → Result StatementEffect FaultKind
in_text (statement.Enter into) operands = enter into operands
in_text (statement.Values Word) operands = map_ok Text (values Word text_word operands)
in_text statement.LoadImmediate operands = map_ok Text (load_immediate operands)
in_text (statement.Code mnemonic) operands = map_ok (λ part. Text (part ∷ [])) (code_of mnemonic operands)
in_text _ operands = Err BadOperand

-- what a statement of the data does
unfoldable pub in_data : Statement → List Operand → Result StatementEffect FaultKind
in_data (statement.Enter into) operands = enter into operands
in_data (statement.Values size) operands = map_ok Data (values size (data_value size) operands)
in_data statement.Ascii operands = map_ok Data (ascii operands)
in_data statement.Space operands = map_ok (λ zeros. Data (zeros ∷ [])) (space operands)
in_data _ operands = Err BadOperand

unfoldable pub meaning : Section → Statement → List Operand → Result StatementEffect FaultKind
meaning section.Text what operands = in_text what operands
meaning section.Data what operands = in_data what operands

abbrev pub known_statement : Section → Option Statement → List Operand → Result StatementEffect FaultKind
known_statement here None operands = Err UnknownName
known_statement here (Some what) operands = meaning here what operands

unfoldable pub statement_effect : Section → List ℕ → List Operand → Result StatementEffect FaultKind
statement_effect here name operands = known_statement here (statement_of name) operands
