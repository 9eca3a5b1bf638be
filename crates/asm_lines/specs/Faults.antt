-- The faults of a source, by the numbers with which they are printed, and what is told where a line is not read.
use Rattle.std.specs.Prelude.{◌≡◌, ℕ, Result, Err, ⊤}
use Rattle.asm_lines.specs.declared.fault.FaultKind.{FaultKind}
use Rattle.asm_lines.specs.declared.fault.FaultKind.TheVariants.{BadLine, UnknownName, Operand, Range, LabelTwice, NoLabel, TooLong, Empty}
use Rattle.asm_lines.specs.declared.fault.LineRefusal.{LineRefusal}
use Rattle.asm_lines.specs.declared.fault.LineRefusal.TheVariants.{Fault, NoMemory}

abbrev pub fault_number : FaultKind → ℕ
fault_number BadLine = 1
fault_number UnknownName = 2
fault_number Operand = 3
fault_number Range = 4
fault_number LabelTwice = 5
fault_number NoLabel = 6
fault_number TooLong = 7
fault_number Empty = 8

-- a refusal is the fault that the definition tells, or want of memory
abbrev pub RefusesLine : {A : Type 0} → Result A FaultKind → LineRefusal → Type 0
RefusesLine told (Fault kind) = told ≡ Err kind
RefusesLine told NoMemory = ⊤
