-- Which harts are live after a step, and whose turn it can be.
use Rattle.std.specs.Prelude.{◌≡◌, ℕ, zero, suc, ◌+◌, ◌-◌, ◌<◌, ◌≤◌, ◌==◌, nat_lt, Bool, true, false, cond, List, [], ◌∷◌, ◌++◌, length, drop, slice_index_or, Option, Some, None, IsSome, Result, Ok, Err, ◌⊎◌}
use Rattle.std.proofs.lemmas.List.{get_or-drop}
use Rattle.std.specs.List.{list_any, position_from}
use Rattle.std.specs.Option.{option_or}
use Rattle.std.proofs.Common.{arith, refl, ap, sym, ◌∙◌, ltb-true, true≢false, inl, inr, get_or, drop-cons}
use Rattle.page_memory.specs.declared.fault.MemoryFault.{MemoryFault}
use Rattle.page_memory.specs.Memory.{Memory}
use Rattle.rv_exec.specs.Registers.{Registers, register}
use Rattle.rv_exec.specs.Line as line
use Rattle.rv_exec.specs.Line.{Line}
use Rattle.env_calls.specs.declared.calls.Call.{Call}
use Rattle.env_calls.specs.declared.calls.Call.TheVariants.{Read, Write, EndHart, EndProcess, Yield, Break, Spawn, HartNumber}
use Rattle.env_calls.specs.Environment.{Environment, is_marked, any_live, least_live_from, next_live}
use Rattle.env_calls.specs.Effect.{Effect, Runs, Yields, Spawns, Finishes, Exits, Traps}
use Rattle.env_calls.specs.Calls.{answers, did_read, read, wrote, write, without, ended, end_hart, moved_break, move_break, is_granted, spawned, spawn, called, call, call_of, a0, a1, a2, a7}
use Rattle.env_calls.specs.Step.{effect, effect_of}

-- ---- after a step

-- the marks after an effect of a hart: a new hart's is behind the others, one that is done has lost its own, and some hart is live
abbrev pub MarksAfter : ℕ → List Bool → Effect → Type 0
MarksAfter hart live (Runs regs after memory) = after.live ≡ live
MarksAfter hart live (Yields regs after memory) = after.live ≡ live
MarksAfter hart live (Spawns first regs after memory) = (after.live ≡ live ++ true ∷ []) × (length live < 8)
MarksAfter hart live (Finishes regs after memory) = (after.live ≡ without hart live) × (any_live (without hart live) ≡ true)
MarksAfter hart live (Exits status regs after memory) = after.live ≡ live
MarksAfter hart live (Traps cause value) = Unit {0}

answered : (hart : ℕ) (live : List Bool) (regs : Registers) (env : Environment) (memory : Memory) (answer : ℕ) → env.live ≡ live → MarksAfter hart live (answers regs env memory answer)
unfolding answers
answered hart live regs env memory answer e = e

after_reading : (hart : ℕ) (regs : Registers) (env : Environment) (memory : Memory) (count : ℕ) (copied : Result Memory MemoryFault) → MarksAfter hart env.live (did_read regs env memory count copied)
after_reading hart regs env memory count (Ok changed) = answered hart env.live regs (record env { input = drop count env.input }) changed count refl
after_reading hart regs env memory count (Err fault) = answered hart env.live regs env memory _ refl

after_writing : (hart : ℕ) (regs : Registers) (env : Environment) (memory : Memory) (count : ℕ) (copied : Result (List ℕ) MemoryFault) → MarksAfter hart env.live (wrote regs env memory count copied)
after_writing hart regs env memory count (Ok bytes) = answered hart env.live regs (record env { output = env.output ++ bytes }) memory count refl
after_writing hart regs env memory count (Err fault) = answered hart env.live regs env memory _ refl

either : (P : Effect → Type 0) (b : Bool) (x y : Effect) → P x → P y → P (cond b x y)
either P true x y p q = p
either P false x y p q = q

after_read : (hart : ℕ) (regs : Registers) (env : Environment) (memory : Memory) (address count : ℕ) → MarksAfter hart env.live (read regs env memory address count)
unfolding read
after_read hart regs env memory address count =
    either (MarksAfter hart env.live) (count == 0) _ _ (answered hart env.live regs env memory 0 refl) (after_reading hart regs env memory _ _)

after_write : (hart : ℕ) (regs : Registers) (env : Environment) (memory : Memory) (address count : ℕ) → MarksAfter hart env.live (write regs env memory address count)
unfolding write
after_write hart regs env memory address count =
    either (MarksAfter hart env.live) (count == 0) _ _ (answered hart env.live regs env memory 0 refl) (after_writing hart regs env memory _ _)

after_ending : (hart : ℕ) (regs : Registers) (env : Environment) (memory : Memory) (others : Bool) → any_live (without hart env.live) ≡ others → MarksAfter hart env.live (ended regs env memory (without hart env.live) others)
after_ending hart regs env memory true e = (refl, e)
after_ending hart regs env memory false e = refl

after_end_hart : (hart : ℕ) (regs : Registers) (env : Environment) (memory : Memory) → MarksAfter hart env.live (end_hart hart regs env memory)
unfolding end_hart
after_end_hart hart regs env memory = after_ending hart regs env memory (any_live (without hart env.live)) refl

after_moving : (hart : ℕ) (regs : Registers) (env : Environment) (memory : Memory) (request : ℕ) (granted : Bool) → MarksAfter hart env.live (moved_break regs env memory request granted)
after_moving hart regs env memory request true = answered hart env.live regs _ _ request refl
after_moving hart regs env memory request false = answered hart env.live regs env memory _ refl

after_break : (hart : ℕ) (regs : Registers) (env : Environment) (memory : Memory) (request : ℕ) → MarksAfter hart env.live (move_break regs env memory request)
unfolding move_break
after_break hart regs env memory request = after_moving hart regs env memory request (is_granted env request)

after_spawning : (hart : ℕ) (regs : Registers) (env : Environment) (memory : Memory) (few : Bool) → nat_lt (length env.live) 8 ≡ few → MarksAfter hart env.live (spawned regs env memory few)
after_spawning hart regs env memory true e = (refl, ltb-true (length env.live) 8 e)
after_spawning hart regs env memory false e = answered hart env.live regs env memory _ refl

after_spawn : (hart : ℕ) (regs : Registers) (env : Environment) (memory : Memory) → MarksAfter hart env.live (spawn regs env memory)
unfolding spawn
after_spawn hart regs env memory = after_spawning hart regs env memory (nat_lt (length env.live) 8) refl

after_called : (hart : ℕ) (regs : Registers) (env : Environment) (memory : Memory) (named : Option Call) → MarksAfter hart env.live (called hart regs env memory named)
after_called hart regs env memory (Some Read) = after_read hart regs env memory (register regs a1) (register regs a2)
after_called hart regs env memory (Some Write) = after_write hart regs env memory (register regs a1) (register regs a2)
after_called hart regs env memory (Some EndHart) = after_end_hart hart regs env memory
after_called hart regs env memory (Some EndProcess) = refl
after_called hart regs env memory (Some Yield) = refl
after_called hart regs env memory (Some Break) = after_break hart regs env memory (register regs a0)
after_called hart regs env memory (Some Spawn) = after_spawn hart regs env memory
after_called hart regs env memory (Some HartNumber) = answered hart env.live regs env memory hart refl
after_called hart regs env memory None = answered hart env.live regs env memory _ refl

after_call : (hart : ℕ) (regs : Registers) (env : Environment) (memory : Memory) → MarksAfter hart env.live (call hart regs env memory)
unfolding call
after_call hart regs env memory = after_called hart regs env memory (call_of (register regs a7))

after_line : (hart : ℕ) (regs : Registers) (env : Environment) (memory : Memory) (does : Line) → MarksAfter hart env.live (effect_of hart regs env memory does)
after_line hart regs env memory (line.Next regs' memory') = refl
after_line hart regs env memory line.Call = after_call hart regs env memory
after_line hart regs env memory (line.Traps cause value) = tt

-- the marks after a step
pub marks_after : (hart : ℕ) (regs : Registers) (env : Environment) (memory : Memory) → MarksAfter hart env.live (effect hart regs env memory)
unfolding effect
marks_after hart regs env memory = after_line hart regs env memory (line.line hart regs memory)

-- ---- whose turn it can be

-- the least live hart from a number on is live
position_marked : (number : ℕ) (live : List Bool) (hart : ℕ) → position_from is_marked number live ≡ Some hart → (number ≤ hart) × (slice_index_or live (hart - number) false ≡ true)
position_marked number [] hart e = cc
position_marked number (true ∷ live) hart e =
    let same : number ≡ hart = cc in
    let index : hart - number ≡ 0 = omega arith in
    (omega arith, ap (λ k. slice_index_or (true ∷ live) k false) index)
position_marked number (false ∷ live) hart e =
    let rest = position_marked (number + 1) live hart e in
    let above = rest.0 in
    let index : hart - number ≡ suc (hart - (number + 1)) = omega arith in
    (omega arith, ap (λ k. slice_index_or (false ∷ live) k false) index ∙ rest.1)

least_marked : (number : ℕ) (live : List Bool) (hart : ℕ) → least_live_from number live ≡ Some hart → slice_index_or live hart false ≡ true
unfolding least_live_from
least_marked number live hart e =
    let at = position_marked number (drop number live) hart e in
    let above = at.0 in
    let index : number + (hart - number) ≡ hart = omega arith in
    sym (get_or-drop number live (hart - number) false ∙ ap (λ k. slice_index_or live k false) index) ∙ at.1

first_or : (a b : Option ℕ) (hart : ℕ) → option_or a b ≡ Some hart → (a ≡ Some hart) ⊎ (b ≡ Some hart)
first_or None b hart e = inr e
first_or (Some x) b hart e = inl e

-- whose turn it is is live
pub next_is_live : (hart : ℕ) (live : List Bool) (next : ℕ) → next_live hart live ≡ Some next → slice_index_or live next false ≡ true
unfolding next_live
next_is_live hart live next e =
    elim (first_or (least_live_from (hart + 1) live) (least_live_from 0 live) next e) [
      | inl above ↦ least_marked (hart + 1) live next above
      | inr least ↦ least_marked 0 live next least
    ]

position_some : (number : ℕ) (live : List Bool) → list_any is_marked live ≡ true → IsSome (position_from is_marked number live)
position_some number [] some = absurd (true≢false (sym some))
position_some number (true ∷ live) some = refl
position_some number (false ∷ live) some = position_some (number + 1) live some

either_some : (a b : Option ℕ) → IsSome b → IsSome (option_or a b)
either_some None b some = some
either_some (Some x) b some = refl

-- where some hart is live, it is some hart's turn
pub next_is_some : (hart : ℕ) (live : List Bool) → any_live live ≡ true → IsSome (next_live hart live)
unfolding next_live any_live least_live_from
next_is_some hart live some = either_some (least_live_from (hart + 1) live) (least_live_from 0 live) (position_some 0 live some)

-- one more live hart
pub more_is_some : (live : List Bool) → any_live (live ++ true ∷ []) ≡ true
unfolding any_live
more_is_some [] = refl
more_is_some (true ∷ live) = refl
more_is_some (false ∷ live) = more_is_some live

-- the least live hart from a number on, by that number's own mark
pub from_mark : (number : ℕ) (live : List Bool) → number < length live
    → least_live_from number live ≡ cond (get_or live number false) (Some number) (position_from is_marked (number + 1) (drop (suc number) live))
unfolding least_live_from
from_mark number live h = ap (position_from is_marked number) (drop-cons live number false h)

none_left : (n : ℕ) (xs : List Bool) → length xs ≤ n → drop n xs ≡ []
none_left zero [] h = refl
none_left (suc n) [] h = refl
none_left zero (x ∷ xs) h = absurd (omega arith)
none_left (suc n) (x ∷ xs) h = none_left n xs (omega arith)

-- none is live from a number on behind the last
pub least_none : (number : ℕ) (live : List Bool) → length live ≤ number → least_live_from number live ≡ None
unfolding least_live_from
least_none number live h = ap (position_from is_marked number) (none_left number live h)
