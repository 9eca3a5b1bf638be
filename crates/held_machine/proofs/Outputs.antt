-- What a process has written never becomes less.
use Rattle.std.specs.Prelude.{◌≡◌, ℕ, ◌≤◌, ◌==◌, nat_lt, Bool, true, false, cond, List, [], ◌∷◌, ◌++◌, length, drop, Option, Some, None, option_map, option_and_then, Result, Ok, Err}
use Rattle.std.proofs.Common.{arith, subst, length-append}
use Rattle.page_memory.specs.declared.fault.MemoryFault.{MemoryFault}
use Rattle.page_memory.specs.Memory.{Memory}
use Rattle.rv_exec.specs.Registers.{Registers, register}
use Rattle.rv_exec.specs.Line as line
use Rattle.rv_exec.specs.Line.{Line}
use Rattle.env_calls.specs.declared.calls.Call.{Call}
use Rattle.env_calls.specs.declared.calls.Call.TheVariants.{Read, Write, EndHart, EndProcess, Yield, Break, Spawn, HartNumber}
use Rattle.env_calls.specs.Environment.{Environment, any_live}
use Rattle.env_calls.specs.Effect.{Effect, Runs, Yields, Spawns, Finishes, Exits, Traps}
use Rattle.env_calls.specs.Calls.{answers, did_read, read, wrote, write, without, ended, end_hart, moved_break, move_break, is_granted, spawned, spawn, called, call, call_of, a0, a1, a2, a7}
use Rattle.env_calls.specs.Step.{effect, effect_of}
use Rattle.flat_machine.specs.Process.{Process, after, hart_registers, may_step, stepped, flat_step, flat_run}

-- after an effect there is as much output as before, or more
abbrev KeepsOutput : ℕ → Effect → Type 0
KeepsOutput n (Runs regs after memory) = n ≤ length after.output
KeepsOutput n (Yields regs after memory) = n ≤ length after.output
KeepsOutput n (Spawns first regs after memory) = n ≤ length after.output
KeepsOutput n (Finishes regs after memory) = n ≤ length after.output
KeepsOutput n (Exits status regs after memory) = n ≤ length after.output
KeepsOutput n (Traps cause value) = Unit {0}

same : (n : ℕ) → n ≤ n
same n = omega arith

answered : (n : ℕ) (regs : Registers) (env : Environment) (memory : Memory) (answer : ℕ) → n ≤ length env.output → KeepsOutput n (answers regs env memory answer)
unfolding answers
answered n regs env memory answer h = h

longer : (xs ys : List ℕ) → length xs ≤ length (xs ++ ys)
longer xs ys = omega (arith, length-append {A = ℕ})

after_reading : (regs : Registers) (env : Environment) (memory : Memory) (count : ℕ) (copied : Result Memory MemoryFault) → KeepsOutput (length env.output) (did_read regs env memory count copied)
after_reading regs env memory count (Ok changed) = answered (length env.output) regs (record env { input = drop count env.input }) changed count (same (length env.output))
after_reading regs env memory count (Err fault) = answered (length env.output) regs env memory _ (same (length env.output))

after_writing : (regs : Registers) (env : Environment) (memory : Memory) (count : ℕ) (copied : Result (List ℕ) MemoryFault) → KeepsOutput (length env.output) (wrote regs env memory count copied)
after_writing regs env memory count (Ok bytes) = answered (length env.output) regs (record env { output = env.output ++ bytes }) memory count (longer env.output bytes)
after_writing regs env memory count (Err fault) = answered (length env.output) regs env memory _ (same (length env.output))

either : (P : Effect → Type 0) (b : Bool) (x y : Effect) → P x → P y → P (cond b x y)
either P true x y p q = p
either P false x y p q = q

after_read : (regs : Registers) (env : Environment) (memory : Memory) (address count : ℕ) → KeepsOutput (length env.output) (read regs env memory address count)
unfolding read
after_read regs env memory address count =
    either (KeepsOutput (length env.output)) (count == 0) _ _ (answered (length env.output) regs env memory 0 (same (length env.output))) (after_reading regs env memory _ _)

after_write : (regs : Registers) (env : Environment) (memory : Memory) (address count : ℕ) → KeepsOutput (length env.output) (write regs env memory address count)
unfolding write
after_write regs env memory address count =
    either (KeepsOutput (length env.output)) (count == 0) _ _ (answered (length env.output) regs env memory 0 (same (length env.output))) (after_writing regs env memory _ _)

after_ending : (hart : ℕ) (regs : Registers) (env : Environment) (memory : Memory) (others : Bool) → KeepsOutput (length env.output) (ended regs env memory (without hart env.live) others)
after_ending hart regs env memory true = same (length env.output)
after_ending hart regs env memory false = same (length env.output)

after_end_hart : (hart : ℕ) (regs : Registers) (env : Environment) (memory : Memory) → KeepsOutput (length env.output) (end_hart hart regs env memory)
unfolding end_hart
after_end_hart hart regs env memory = after_ending hart regs env memory (any_live (without hart env.live))

after_moving : (regs : Registers) (env : Environment) (memory : Memory) (request : ℕ) (granted : Bool) → KeepsOutput (length env.output) (moved_break regs env memory request granted)
after_moving regs env memory request true = answered (length env.output) regs _ _ request (same (length env.output))
after_moving regs env memory request false = answered (length env.output) regs env memory _ (same (length env.output))

after_break : (regs : Registers) (env : Environment) (memory : Memory) (request : ℕ) → KeepsOutput (length env.output) (move_break regs env memory request)
unfolding move_break
after_break regs env memory request = after_moving regs env memory request (is_granted env request)

after_spawning : (regs : Registers) (env : Environment) (memory : Memory) (few : Bool) → KeepsOutput (length env.output) (spawned regs env memory few)
after_spawning regs env memory true = same (length env.output)
after_spawning regs env memory false = answered (length env.output) regs env memory _ (same (length env.output))

after_spawn : (regs : Registers) (env : Environment) (memory : Memory) → KeepsOutput (length env.output) (spawn regs env memory)
unfolding spawn
after_spawn regs env memory = after_spawning regs env memory (nat_lt (length env.live) 8)

after_called : (hart : ℕ) (regs : Registers) (env : Environment) (memory : Memory) (named : Option Call) → KeepsOutput (length env.output) (called hart regs env memory named)
after_called hart regs env memory (Some Read) = after_read regs env memory (register regs a1) (register regs a2)
after_called hart regs env memory (Some Write) = after_write regs env memory (register regs a1) (register regs a2)
after_called hart regs env memory (Some EndHart) = after_end_hart hart regs env memory
after_called hart regs env memory (Some EndProcess) = same (length env.output)
after_called hart regs env memory (Some Yield) = same (length env.output)
after_called hart regs env memory (Some Break) = after_break regs env memory (register regs a0)
after_called hart regs env memory (Some Spawn) = after_spawn regs env memory
after_called hart regs env memory (Some HartNumber) = answered (length env.output) regs env memory hart (same (length env.output))
after_called hart regs env memory None = answered (length env.output) regs env memory _ (same (length env.output))

after_call : (hart : ℕ) (regs : Registers) (env : Environment) (memory : Memory) → KeepsOutput (length env.output) (call hart regs env memory)
unfolding call
after_call hart regs env memory = after_called hart regs env memory (call_of (register regs a7))

after_line : (hart : ℕ) (regs : Registers) (env : Environment) (memory : Memory) (does : Line) → KeepsOutput (length env.output) (effect_of hart regs env memory does)
after_line hart regs env memory (line.Next regs' memory') = same (length env.output)
after_line hart regs env memory line.Call = after_call hart regs env memory
after_line hart regs env memory (line.Traps cause value) = tt

after_effect : (hart : ℕ) (regs : Registers) (env : Environment) (memory : Memory) → KeepsOutput (length env.output) (effect hart regs env memory)
unfolding effect
after_effect hart regs env memory = after_line hart regs env memory (line.line hart regs memory)

after_step : (hart : ℕ) (process : Process) (registers : Registers) (e : Effect) → KeepsOutput (length process.environment.output) e → length process.environment.output ≤ length (after hart process registers e).environment.output
after_step hart process registers (Runs regs env memory) h = h
after_step hart process registers (Yields regs env memory) h = h
after_step hart process registers (Spawns first regs env memory) h = h
after_step hart process registers (Finishes regs env memory) h = h
after_step hart process registers (Exits status regs env memory) h = h
after_step hart process registers (Traps cause value) h = same (length process.environment.output)

-- the process after a step, if there is one, has as much output or more
abbrev NotLess : ℕ → Option Process → Type 0
NotLess n None = Unit {0}
NotLess n (Some process) = n ≤ length process.environment.output

stepped_not_less : (hart : ℕ) (process : Process) (regs : Option Registers) → NotLess (length process.environment.output) (option_map (stepped hart process) regs)
stepped_not_less hart process None = tt
stepped_not_less hart process (Some registers) = after_step hart process registers _ (after_effect hart registers process.environment process.memory)

either_not_less : (n : ℕ) (b : Bool) (next : Option Process) → NotLess n next → NotLess n (cond b next None)
either_not_less n true next h = h
either_not_less n false next h = tt

step_not_less : (hart : ℕ) (process : Process) → NotLess (length process.environment.output) (flat_step hart process)
unfolding flat_step
step_not_less hart process = either_not_less (length process.environment.output) (may_step hart process) (option_map (stepped hart process) (hart_registers hart process)) (stepped_not_less hart process (hart_registers hart process))

weaker : (n m : ℕ) (next : Option Process) → n ≤ m → NotLess m next → NotLess n next
weaker n m None h k = tt
weaker n m (Some process) h k = omega arith

then_not_less : (harts : List ℕ) (n : ℕ) (next : Option Process) → ((after : Process) → NotLess (length after.environment.output) (flat_run harts after)) → NotLess n next → NotLess n (option_and_then (flat_run harts) next)
then_not_less harts n None run h = tt
then_not_less harts n (Some next) run h = weaker n (length next.environment.output) (flat_run harts next) h (run next)

run_not_less : (harts : List ℕ) (process : Process) → NotLess (length process.environment.output) (flat_run harts process)
unfolding flat_run
run_not_less [] process = same (length process.environment.output)
run_not_less (hart ∷ harts) process =
    then_not_less harts (length process.environment.output) (flat_step hart process) (λ (after : Process). run_not_less harts after) (step_not_less hart process)

-- a run makes the output no shorter
pub run_keeps_output : (harts : List ℕ) (before after : Process) → flat_run harts before ≡ Some after → length before.environment.output ≤ length after.environment.output
run_keeps_output harts before after ran = subst (λ (next : Option Process). NotLess (length before.environment.output) next) ran (run_not_less harts before)
