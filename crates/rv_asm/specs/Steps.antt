-- Answers that may be a fault, one after another.
use Rattle.std.specs.Prelude.{ℕ, Result, Ok, Err, ⊤, ◌≡◌}
use Rattle.asm_lines.specs.declared.fault.FaultKind.{FaultKind}
use Rattle.rv_asm.specs.declared.fault.AsmError.{AsmError}
use Rattle.rv_asm.specs.declared.fault.AsmError.TheVariants.{Fault, NoMemory}

-- a fault with the number of its line; lines count from 1, and a fault of no line is at 0
pub record FaultAt : Type 0 where
  pub line : ℕ
  pub kind : FaultKind

-- what follows an answer, or its fault
abbrev pub chained : {A B F : Type 0} → (A → Result B F) → Result A F → Result B F
chained next (Ok x) = next x
chained next (Err fault) = Err fault

-- an answer by a function of its value, or its fault
abbrev pub map_value : {A B F : Type 0} → (A → B) → Result A F → Result B F
map_value f (Ok x) = Ok (f x)
map_value f (Err fault) = Err fault

-- an answer whose fault is on this line
abbrev pub on_line : {A : Type 0} → ℕ → Result A FaultKind → Result A FaultAt
on_line line (Ok x) = Ok x
on_line line (Err kind) = Err (record { line = line; kind = kind })

-- an error is the fault that the definition gives, or lack of memory
abbrev pub Fails : {A : Type 0} → Result A FaultAt → AsmError → Type 0
Fails told (Fault line kind) = told ≡ Err (record { line = line; kind = kind })
Fails told NoMemory = ⊤
