-- What an outcome of `execute` says of the line that the hart's next step is.
use Rattle.std.specs.Prelude.{◌≡◌, ℕ, List, All, Contains}
use Rattle.page_memory.specs.Memory.{Memory}
use Rattle.rv_exec.specs.declared.outcome.Outcome.{Outcome}
use Rattle.rv_exec.specs.declared.outcome.Outcome.TheVariants.{Done, Ecall, Trap, Absent}
use Rattle.rv_exec.specs.Registers.{Registers}
use Rattle.rv_exec.specs.Line.{Line, Next, Call, Traps}

-- the outcome is the line's, with these registers and this memory after it
abbrev pub Follows : Line → Outcome → Registers → Memory → Type 0
Follows line Done regs memory = line ≡ Next regs memory
Follows line Ecall regs memory = line ≡ Call
Follows line (Trap cause value) regs memory = line ≡ Traps cause value
Follows line (Absent page) regs memory = Unit {0}

-- a fact that holds unless the instruction was done
abbrev pub UnlessDone : Outcome → Type 0 → Type 0
UnlessDone Done fact = Unit {0}
UnlessDone Ecall fact = fact
UnlessDone (Trap cause value) fact = fact
UnlessDone (Absent page) fact = fact

-- the bus had each of these pages, and has marked the use of each
abbrev pub Used : (has marks : ℕ → Type 0) → List ℕ → Type 0
Used has marks pages = All has pages × All marks pages

-- the pages that the instruction uses were used; or the bus lacked the one of them that is absent
abbrev pub UsesPages : (has marks lacks : ℕ → Type 0) → List ℕ → Outcome → Type 0
UsesPages has marks lacks pages Done = Used has marks pages
UsesPages has marks lacks pages Ecall = Used has marks pages
UsesPages has marks lacks pages (Trap cause value) = Used has marks pages
UsesPages has marks lacks pages (Absent page) = Contains pages page × lacks page

abbrev pub IsPresent : Outcome → Type 0
IsPresent Done = Unit {0}
IsPresent Ecall = Unit {0}
IsPresent (Trap cause value) = Unit {0}
IsPresent (Absent page) = ⊥
