-- The error of a source, from the refusal of one of its lines.
use Rattle.std.specs.Prelude.{ℕ}
use Rattle.asm_lines.specs.declared.fault.LineRefusal.{LineRefusal}
use Rattle.asm_lines.specs.declared.fault.LineRefusal.TheVariants as refusal
use Rattle.rv_asm.specs.declared.fault.AsmError.{AsmError}
use Rattle.rv_asm.specs.declared.fault.AsmError.TheVariants.{Fault, NoMemory}

-- the error of a line that is not read
abbrev pub error_on : ℕ → LineRefusal → AsmError
error_on line (refusal.Fault kind) = Fault line kind
error_on line refusal.NoMemory = NoMemory
