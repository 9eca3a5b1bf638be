-- What is written stays: each step leaves the output as it was, or longer.
use Rattle.std.proofs.Common.{◌≡◌, ℕ, zero, suc, ◌+◌, ◌==◌, nat_lt, Bool, true, false, cond, List, [], ◌∷◌, ◌++◌, length, drop, Option, Some, None, Result, Ok, Err, refl, sym, ap, ◌∙◌}
use Rattle.std.specs.Option.{option_map, option_and_then}
use Rattle.std.proofs.lemmas.List.{append-nil, append_assoc}
use Rattle.std.proofs.lemmas.Option.{same_Some, some_pair_parts, none-some}
use Rattle.page_memory.specs.declared.fault.MemoryFault.{MemoryFault}
use Rattle.page_memory.specs.Memory.{Memory}
use Rattle.rv_exec.specs.Registers.{Registers, register}
use Rattle.rv_exec.specs.Line as line
use Rattle.rv_exec.specs.Line.{Line}
use Rattle.env_calls.specs.declared.calls.Call.{Call}
use Rattle.env_calls.specs.declared.calls.Call.TheVariants.{Read, Write, EndHart, EndProcess, Yield, Break, Spawn, HartNumber}
use Rattle.env_calls.specs.Environment.{Environment, any_live}
use Rattle.env_calls.specs.Effect.{Effect, Runs, Yields, Spawns, Finishes, Exits, Traps}
use Rattle.env_calls.specs.Calls.{answers, did_read, read, wrote, write, without, ended, end_hart, moved_break, move_break, is_granted, spawned, spawn, called, call, call_of, a0, a1, a2, a7}
use Rattle.env_calls.specs.Step.{effect, effect_of}
use Rattle.flat_machine.specs.Process.{Process, flat_step, may_step, stepped, hart_registers, after}
use Rattle.flat_machine.specs.ByTurns.{by_turns, turn_after}

-- one output is another one, and then some bytes
abbrev pub Extends : List ℕ → List ℕ → Type 0
Extends old new = (more : List ℕ) × (new ≡ old ++ more)

same : (output : List ℕ) → Extends output output
same output = ([], sym (append-nil output))

-- ---- after an effect

abbrev OutputAfter : List ℕ → Effect → Type 0
OutputAfter output (Runs regs after memory) = Extends output after.output
OutputAfter output (Yields regs after memory) = Extends output after.output
OutputAfter output (Spawns first regs after memory) = Extends output after.output
OutputAfter output (Finishes regs after memory) = Extends output after.output
OutputAfter output (Exits status regs after memory) = Extends output after.output
OutputAfter output (Traps cause value) = Unit {0}

answered : (output : List ℕ) (regs : Registers) (env : Environment) (memory : Memory) (answer : ℕ) → Extends output env.output → OutputAfter output (answers regs env memory answer)
unfolding answers
answered output regs env memory answer e = e

after_reading : (regs : Registers) (env : Environment) (memory : Memory) (count : ℕ) (copied : Result Memory MemoryFault) → OutputAfter env.output (did_read regs env memory count copied)
after_reading regs env memory count (Ok changed) = answered env.output regs (record env { input = drop count env.input }) changed count (same env.output)
after_reading regs env memory count (Err fault) = answered env.output regs env memory _ (same env.output)

after_writing : (regs : Registers) (env : Environment) (memory : Memory) (count : ℕ) (copied : Result (List ℕ) MemoryFault) → OutputAfter env.output (wrote regs env memory count copied)
after_writing regs env memory count (Ok bytes) = answered env.output regs (record env { output = env.output ++ bytes }) memory count (bytes, refl)
after_writing regs env memory count (Err fault) = answered env.output regs env memory _ (same env.output)

either : (P : Effect → Type 0) (b : Bool) (x y : Effect) → P x → P y → P (cond b x y)
either P true x y p q = p
either P false x y p q = q

after_read : (regs : Registers) (env : Environment) (memory : Memory) (address count : ℕ) → OutputAfter env.output (read regs env memory address count)
unfolding read
after_read regs env memory address count = either (OutputAfter env.output) (count == 0) _ _ (answered env.output regs env memory 0 (same env.output)) (after_reading regs env memory _ _)

after_write : (regs : Registers) (env : Environment) (memory : Memory) (address count : ℕ) → OutputAfter env.output (write regs env memory address count)
unfolding write
after_write regs env memory address count = either (OutputAfter env.output) (count == 0) _ _ (answered env.output regs env memory 0 (same env.output)) (after_writing regs env memory _ _)

after_ending : (regs : Registers) (env : Environment) (memory : Memory) (left : List Bool) (others : Bool) → OutputAfter env.output (ended regs env memory left others)
after_ending regs env memory left true = same env.output
after_ending regs env memory left false = same env.output

after_end_hart : (hart : ℕ) (regs : Registers) (env : Environment) (memory : Memory) → OutputAfter env.output (end_hart hart regs env memory)
unfolding end_hart
after_end_hart hart regs env memory = after_ending regs env memory (without hart env.live) (any_live (without hart env.live))

after_moving : (regs : Registers) (env : Environment) (memory : Memory) (request : ℕ) (granted : Bool) → OutputAfter env.output (moved_break regs env memory request granted)
after_moving regs env memory request true = answered env.output regs _ _ request (same env.output)
after_moving regs env memory request false = answered env.output regs env memory _ (same env.output)

after_break : (regs : Registers) (env : Environment) (memory : Memory) (request : ℕ) → OutputAfter env.output (move_break regs env memory request)
unfolding move_break
after_break regs env memory request = after_moving regs env memory request (is_granted env request)

after_spawning : (regs : Registers) (env : Environment) (memory : Memory) (few : Bool) → OutputAfter env.output (spawned regs env memory few)
after_spawning regs env memory true = same env.output
after_spawning regs env memory false = answered env.output regs env memory _ (same env.output)

after_spawn : (regs : Registers) (env : Environment) (memory : Memory) → OutputAfter env.output (spawn regs env memory)
unfolding spawn
after_spawn regs env memory = after_spawning regs env memory (nat_lt (length env.live) 8)

after_called : (hart : ℕ) (regs : Registers) (env : Environment) (memory : Memory) (named : Option Call) → OutputAfter env.output (called hart regs env memory named)
after_called hart regs env memory (Some Read) = after_read regs env memory (register regs a1) (register regs a2)
after_called hart regs env memory (Some Write) = after_write regs env memory (register regs a1) (register regs a2)
after_called hart regs env memory (Some EndHart) = after_end_hart hart regs env memory
after_called hart regs env memory (Some EndProcess) = same env.output
after_called hart regs env memory (Some Yield) = same env.output
after_called hart regs env memory (Some Break) = after_break regs env memory (register regs a0)
after_called hart regs env memory (Some Spawn) = after_spawn regs env memory
after_called hart regs env memory (Some HartNumber) = answered env.output regs env memory hart (same env.output)
after_called hart regs env memory None = answered env.output regs env memory _ (same env.output)

after_call : (hart : ℕ) (regs : Registers) (env : Environment) (memory : Memory) → OutputAfter env.output (call hart regs env memory)
unfolding call
after_call hart regs env memory = after_called hart regs env memory (call_of (register regs a7))

after_line : (hart : ℕ) (regs : Registers) (env : Environment) (memory : Memory) (does : Line) → OutputAfter env.output (effect_of hart regs env memory does)
after_line hart regs env memory (line.Next regs' memory') = same env.output
after_line hart regs env memory line.Call = after_call hart regs env memory
after_line hart regs env memory (line.Traps cause value) = tt

after_effect : (hart : ℕ) (regs : Registers) (env : Environment) (memory : Memory) → OutputAfter env.output (effect hart regs env memory)
unfolding effect
after_effect hart regs env memory = after_line hart regs env memory (line.line hart regs memory)

-- ---- after steps

kept_by : (hart : ℕ) (process : Process) (before : Registers) (does : Effect) → OutputAfter process.environment.output does → Extends process.environment.output (after hart process before does).environment.output
kept_by hart process before (Runs regs env memory) e = e
kept_by hart process before (Yields regs env memory) e = e
kept_by hart process before (Spawns first regs env memory) e = e
kept_by hart process before (Finishes regs env memory) e = e
kept_by hart process before (Exits status regs env memory) e = e
kept_by hart process before (Traps cause value) e = same process.environment.output

after_stepped : (hart : ℕ) (process : Process) (registers : Registers) → Extends process.environment.output (stepped hart process registers).environment.output
after_stepped hart process registers = kept_by hart process registers (effect hart registers process.environment process.memory) (after_effect hart registers process.environment process.memory)

after_step : (hart : ℕ) (old new : Process) → flat_step hart old ≡ Some new → Extends old.environment.output new.environment.output
unfolding flat_step
after_step hart old new e = choose (may_step hart old) (hart_registers hart old) e
  where
    choose : (may : Bool) (registers : Option Registers) → cond may (option_map (stepped hart old) registers) None ≡ Some new → Extends old.environment.output new.environment.output
    choose false registers e = absurd (none-some new e)
    choose true None e = absurd (none-some new e)
    choose true (Some regs) e =
        let is : stepped hart old regs ≡ new = same_Some (stepped hart old regs) new e in
        let grown = after_stepped hart old regs in
        (grown.0, ap (λ (p : Process). p.environment.output) (sym is) ∙ grown.1)

both : (a b c : List ℕ) → Extends a b → Extends b c → Extends a c
both a b c first second = (first.0 ++ second.0, second.1 ∙ ap (λ l. l ++ second.0) first.1 ∙ append_assoc a first.0 second.0)

-- a run by turns
pub output_grows : (count hart turn : ℕ) (old new : Process) → by_turns count hart old ≡ Some (turn, new) → Extends old.environment.output new.environment.output
unfolding by_turns
output_grows zero hart turn old new e =
    let is : old ≡ new = (some_pair_parts hart turn old new e).1 in
    ([], ap (λ (p : Process). p.environment.output) (sym is) ∙ sym (append-nil old.environment.output))
output_grows (suc count) hart turn old new e = choose (flat_step hart old) refl (λ next. output_grows count (turn_after hart next) turn next new) e
  where
    choose : (stepped : Option Process) → flat_step hart old ≡ stepped → ((next : Process) → by_turns count (turn_after hart next) next ≡ Some (turn, new) → Extends next.environment.output new.environment.output)
        → option_and_then (λ next. by_turns count (turn_after hart next) next) stepped ≡ Some (turn, new) → Extends old.environment.output new.environment.output
    choose None is later e = cc
    choose (Some next) is later e = both old.environment.output next.environment.output new.environment.output (after_step hart old next is) (later next e)
