-- Operands that are numbers or texts: none where the operands are others in number or kind.
use Rattle.std.specs.Prelude.{ℕ, ℤ, List, [], ◌∷◌, Option, Some, None}
use Rattle.asm_lines.specs.declared.operand.Operand.{Operand}
use Rattle.asm_lines.specs.declared.operand.Operand.TheVariants.{Number, Text}

unfoldable pub number_operand : Operand → Option ℤ
number_operand (Number n) = Some n
number_operand _ = None

unfoldable pub text : Operand → Option (List ℕ)
text (Text characters) = Some characters
text _ = None

-- `n`
unfoldable pub one_number : List Operand → Option ℤ
one_number (a ∷ []) = number_operand a
one_number _ = None

-- `"text"`, with its escapes
unfoldable pub one_text : List Operand → Option (List ℕ)
one_text (a ∷ []) = text a
one_text _ = None
