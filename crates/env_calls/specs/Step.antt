-- A whole step of a hart: the line of the instruction at pc, and for an ECALL the call that it makes.
use Rattle.std.specs.Prelude.{ℕ, List, [], ◌++◌}
use Rattle.page_memory.specs.Memory.{Memory}
use Rattle.rv_exec.specs.Registers.{Registers}
use Rattle.rv_exec.specs.Line as line
use Rattle.rv_exec.specs.Line.{Line}
use Rattle.rv_exec.specs.Uses.{pages_used, pages_stored}
use Rattle.env_calls.specs.Environment.{Environment}
use Rattle.env_calls.specs.Effect.{Effect, Runs, Traps}
use Rattle.env_calls.specs.Calls.{call, call_pages, call_stores}

abbrev pub effect_of : ℕ → Registers → Environment → Memory → Line → Effect
effect_of hart regs env memory (line.Next regs' memory') = Runs regs' env memory'
effect_of hart regs env memory line.Call = call hart regs env memory
effect_of hart regs env memory (line.Traps cause value) = Traps cause value

-- what the next step of a hart, by its number, does
unfoldable pub effect : ℕ → Registers → Environment → Memory → Effect
effect hart regs env memory = effect_of hart regs env memory (line.line hart regs memory)

abbrev pub served_pages : Registers → Memory → Line → List ℕ
served_pages regs memory (line.Next regs' memory') = []
served_pages regs memory line.Call = call_pages regs memory
served_pages regs memory (line.Traps cause value) = []

-- the pages that the step uses: those of the instruction, then those of its call
unfoldable pub step_pages : ℕ → Registers → Memory → List ℕ
step_pages hart regs memory = pages_used regs memory ++ served_pages regs memory (line.line hart regs memory)

abbrev pub served_stores : Registers → Memory → Line → List ℕ
served_stores regs memory (line.Next regs' memory') = []
served_stores regs memory line.Call = call_stores regs memory
served_stores regs memory (line.Traps cause value) = []

-- the pages among them that it stores to
unfoldable pub step_stores : ℕ → Registers → Memory → List ℕ
step_stores hart regs memory = pages_stored regs memory ++ served_stores regs memory (line.line hart regs memory)
