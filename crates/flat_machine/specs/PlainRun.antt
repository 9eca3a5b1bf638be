-- The steps of a hart that neither call nor trap: they change nothing but its registers and the memory.
use Rattle.std.specs.Prelude.{◌≡◌, ℕ, zero, suc, Option, Some, None, option_and_then}
use Rattle.page_memory.specs.Memory.{Memory}
use Rattle.rv_exec.specs.declared.outcome.Outcome.{Outcome}
use Rattle.rv_exec.specs.declared.outcome.Outcome.TheVariants.{Done, Ecall, Trap, Absent}
use Rattle.rv_exec.specs.Registers.{Registers}
use Rattle.rv_exec.specs.Line.{Line, Next, Call, Traps, line}
use Rattle.flat_machine.specs.Process.{Process, hart_registers}

abbrev pub left_by : Line → Option (Registers × Memory)
left_by (Next registers memory) = Some (registers, memory)
left_by Call = None
left_by (Traps cause value) = None

-- the registers of the hart of a number, and the memory, after its next step, if it is one of these
abbrev pub plain_step : ℕ → Registers × Memory → Option (Registers × Memory)
plain_step hart now = left_by (line hart now.0 now.1)

-- after so many of them
unfoldable pub plain_run : ℕ → ℕ → Registers → Memory → Option (Registers × Memory)
plain_run hart zero registers memory = Some (registers, memory)
plain_run hart (suc n) registers memory = option_and_then (plain_step hart) (plain_run hart n registers memory)

-- an instruction that calls or traps came to this outcome
abbrev pub StopsAs : Outcome → Line → Type 0
StopsAs Done line = ⊥
StopsAs Ecall line = line ≡ Call
StopsAs (Trap cause value) line = line ≡ Traps cause value
StopsAs (Absent page) line = ⊥

-- the next instruction of a hart of a process came to it
unfoldable pub StopsNext : ℕ → Outcome → Process → Type 0
StopsNext hart outcome process = (registers : Registers) → hart_registers hart process ≡ Some registers → StopsAs outcome (line hart registers process.memory)
