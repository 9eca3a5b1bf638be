-- What comes of operands and of answers.
use Rattle.std.specs.Prelude.{Option, Some, None, Result, Ok, Err}
use Rattle.asm_lines.specs.declared.fault.FaultKind.{FaultKind}
use Rattle.asm_lines.specs.declared.fault.FaultKind.TheVariants.{Operand as BadOperand}

-- what comes of the operands, where they have their shape
abbrev pub given : {A B : Type 0} → Option A → (A → Result B FaultKind) → Result B FaultKind
given None meaning = Err BadOperand
given (Some operands) meaning = meaning operands

abbrev pub map_ok : {A B : Type 0} → (A → B) → Result A FaultKind → Result B FaultKind
map_ok f (Ok x) = Ok (f x)
map_ok f (Err fault) = Err fault
