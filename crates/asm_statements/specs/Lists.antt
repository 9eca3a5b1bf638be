-- What a list of values puts into the text.
-- Source: assembly programmer's manual, "Pseudo Ops".
use Rattle.std.specs.Prelude.{negsuc, Result, Ok, Err}
use Rattle.std.specs.Int.{w32}
use Rattle.asm_lines.specs.declared.operand.Operand.{Operand}
use Rattle.asm_lines.specs.declared.operand.Operand.TheVariants.{Number, Name}
use Rattle.asm_lines.specs.declared.fault.FaultKind.{FaultKind}
use Rattle.asm_lines.specs.declared.fault.FaultKind.TheVariants.{Operand as BadOperand}
use Rattle.asm_values.specs.Answers.{map_ok}
use Rattle.asm_values.specs.Ranges.{bits_within}
use Rattle.asm_statements.specs.declared.part.CodePart.{CodePart}
use Rattle.asm_statements.specs.declared.part.CodePart.TheVariants as code

-- one word of the text
unfoldable pub text_word : Operand → Result CodePart FaultKind
text_word (Number n) = map_ok code.Number (bits_within w32 (negsuc 0x7FFF_FFFF) 0xFFFF_FFFF n)
text_word (Name name) = Ok (code.Address name)
text_word _ = Err BadOperand
