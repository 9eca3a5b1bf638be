-- The form of a line.
use Rattle.std.specs.Prelude.{ℕ, List, [], ◌∷◌, ◌++◌, Option, Some, None, option_map, option_and_then, ok_or, Result}
use Rattle.asm_lines.specs.declared.fault.FaultKind.{FaultKind}
use Rattle.asm_lines.specs.declared.fault.FaultKind.TheVariants.{BadLine}
use Rattle.asm_lines.specs.declared.operand.Operand.{Operand}
use Rattle.asm_lines.specs.declared.operand.Operand.TheVariants as operand
use Rattle.asm_lines.specs.declared.token.Token.{Token}
use Rattle.asm_lines.specs.declared.token.Token.TheVariants.{Number, Name, Text, Colon, Comma, Open, Close}
use Rattle.asm_lines.specs.Forms.{SourceLine}
use Rattle.asm_lines.specs.Tokens.{tokens_of}

-- where in a list of operands a token stands: an operand is to come, or this one has come
pub data OperandTurn : Type 0 where
  Due : OperandTurn
  After : Operand → OperandTurn

-- operands, parted by commas: a number, a name, a text, a number with a name in brackets, or a name in brackets
abbrev pub operands_from : OperandTurn → List Token → Option (List Operand)
operands_from Due (Number offset ∷ Open ∷ Name base ∷ Close ∷ tokens) = operands_from (After (operand.Indexed offset base)) tokens
operands_from Due (Open ∷ Name base ∷ Close ∷ tokens) = operands_from (After (operand.Indirect base)) tokens
operands_from Due (Number number ∷ tokens) = operands_from (After (operand.Number number)) tokens
operands_from Due (Name name ∷ tokens) = operands_from (After (operand.Name name)) tokens
operands_from Due (Text text ∷ tokens) = operands_from (After (operand.Text text)) tokens
operands_from (After operand) [] = Some (operand ∷ [])
operands_from (After operand) (Comma ∷ tokens) = option_map (λ operands. operand ∷ operands) (operands_from Due tokens)
operands_from turn tokens = None

-- what stands behind a statement's name: nothing, or operands
abbrev pub arguments_of : List Token → Option (List Operand)
arguments_of [] = Some []
arguments_of (token ∷ tokens) = operands_from Due (token ∷ tokens)

-- a line without labels
abbrev pub unlabelled : Option (List ℕ) → List Operand → SourceLine
unlabelled name operands = record { labels = []; name = name; operands = operands }

-- a statement's name and its operands, or nothing
abbrev pub statement_form : List Token → Option SourceLine
statement_form [] = Some (unlabelled None [])
statement_form (Name name ∷ tokens) = option_map (unlabelled (Some name)) (arguments_of tokens)
statement_form tokens = None

-- a line with these labels in front of its own
abbrev pub labelled : List (List ℕ) → SourceLine → SourceLine
labelled labels line = record { labels = labels ++ line.labels; name = line.name; operands = line.operands }

-- labels, each with a colon behind it, and a statement
abbrev pub line_of : List Token → Option SourceLine
line_of (Name label ∷ Colon ∷ tokens) = option_map (labelled (label ∷ [])) (line_of tokens)
line_of tokens = statement_form tokens

unfoldable pub line_form : List ℕ → Result SourceLine FaultKind
line_form text = ok_or (option_and_then line_of (tokens_of text)) BadLine
