-- Which steps let other harts have their turn: those that make the call for it.
use Rattle.std.specs.Prelude.{ℕ, Bool, true, false, Option, Some}
use Rattle.page_memory.specs.Memory.{Memory}
use Rattle.rv_exec.specs.Registers.{Registers, register}
use Rattle.rv_exec.specs.Line as line
use Rattle.rv_exec.specs.Line.{Line}
use Rattle.env_calls.specs.declared.calls.Call.{Call}
use Rattle.env_calls.specs.declared.calls.Call.TheVariants.{Yield}
use Rattle.env_calls.specs.Calls.{a7, call_of}

abbrev pub is_yield : Option Call → Bool
is_yield (Some Yield) = true
is_yield _ = false

abbrev pub served_yields : Registers → Line → Bool
served_yields regs (line.Next regs' memory') = false
served_yields regs line.Call = is_yield (call_of (register regs a7))
served_yields regs (line.Traps cause value) = false

-- whether the step of the hart of a number, at its registers and this memory, is such a call
unfoldable pub step_yields : ℕ → Registers → Memory → Bool
step_yields hart regs memory = served_yields regs (line.line hart regs memory)
