-- What the tokens of a text read to.
use Rattle.std.specs.Prelude.{ℕ, List, ◌∷◌, Option, Some, None, option_and_then}
use Rattle.asm_lines.specs.declared.operand.Operand.{Operand}
use Rattle.asm_lines.specs.declared.token.Token.{Token}
use Rattle.asm_lines.specs.declared.token.Token.TheVariants.{Name, Colon, Close}
use Rattle.asm_lines.specs.Forms.{SourceLine}
use Rattle.asm_lines.specs.Tokens.{tokens_of}
use Rattle.asm_lines.specs.Lines.{OperandTurn, Due, operands_from, arguments_of, statement_form, line_of}

abbrev pub operands_on : OperandTurn → List ℕ → Option (List Operand)
operands_on turn text = option_and_then (operands_from turn) (tokens_of text)

-- the operands where this token stands before the text
abbrev pub operands_behind : Token → List ℕ → Option (List Operand)
operands_behind token text = option_and_then (λ tokens. operands_from Due (token ∷ tokens)) (tokens_of text)

abbrev pub arguments_on : List ℕ → Option (List Operand)
arguments_on text = option_and_then arguments_of (tokens_of text)

abbrev pub statement_on : List ℕ → Option SourceLine
statement_on text = option_and_then statement_form (tokens_of text)

abbrev pub line_on : List ℕ → Option SourceLine
line_on text = option_and_then line_of (tokens_of text)

-- a name and a closing bracket, and the tokens behind them
abbrev pub base_of : List Token → Option (List ℕ × List Token)
base_of (Name name ∷ Close ∷ tokens) = Some (name, tokens)
base_of tokens = None

abbrev pub base_on : List ℕ → Option (List ℕ × List Token)
base_on text = option_and_then base_of (tokens_of text)

-- a name and a colon, and the tokens behind them
abbrev pub label_of : List Token → Option (List ℕ × List Token)
label_of (Name name ∷ Colon ∷ tokens) = Some (name, tokens)
label_of tokens = None

abbrev pub label_on : List ℕ → Option (List ℕ × List Token)
label_on text = option_and_then label_of (tokens_of text)
