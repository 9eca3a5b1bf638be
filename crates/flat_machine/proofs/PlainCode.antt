-- Pages that may not be written stay as they are by steps and calls; and runs of decoded instructions are plain runs.
use Rattle.std.proofs.Common.{◌≡◌, ◌≤◌, ◌-◌, ℕ, zero, suc, ◌+◌, ◌==◌, nat_lt, length, take, Bool, true, false, List, Option, Some, None, option_and_then, Result, Ok, Err, ap, ◌∙◌, refl, sym, subst, arith, if◌then◌else◌}
use Rattle.std.proofs.lemmas.Option.{none-some}
use Rattle.page_memory.specs.declared.fault.MemoryFault.{MemoryFault}
use Rattle.page_memory.specs.declared.words.Access.{Access}
use Rattle.page_memory.specs.Memory.{Memory, copied_in, copied_out}
use Rattle.page_memory.specs.ReadOnly.{KeepsReadOnly}
use Rattle.page_memory.proofs.KeptPages.{kept_itself, kept_on, copied_keeps, zeroed_keeps}
use Rattle.rv_exec.specs.Registers.{Registers, register}
use Rattle.rv_exec.specs.Line.{Line, Next, Call, Traps, line}
use Rattle.decoded_pages.specs.Running.{Iterates, Steps}
use Rattle.decoded_pages.proofs.Keeping.{LineKeeps, line_keeps, next_keeps}
use Rattle.env_calls.specs.declared.calls.Call.{Call as SomeCall}
use Rattle.env_calls.specs.declared.calls.Call.TheVariants.{Read, Write, EndHart, EndProcess, Yield, Break, Spawn, HartNumber}
use Rattle.env_calls.specs.declared.stepping.Stepped.{Stepped}
use Rattle.env_calls.specs.declared.stepping.Stepped.TheVariants as stepped
use Rattle.env_calls.specs.Environment.{Environment, any_live, most_harts}
use Rattle.env_calls.specs.Effect.{Effect, Runs, Yields, Spawns, Finishes, Exits}
use Rattle.env_calls.specs.Effect as effect
use Rattle.env_calls.specs.Calls.{bad_address, no_more_harts, no_such_call, count_in_page, call, called, call_of, read, did_read, count_to_read, write, wrote, answers, move_break, moved_break, is_granted, pages_up_to, pages_to_add, end_hart, ended, without, spawn, spawned, a0, a1, a2, a7}
use Rattle.env_calls.specs.Step.{effect_of, effect as effect_at}
use Rattle.env_calls.specs.Stepping.{IsEffect, Stays}
use Rattle.flat_machine.specs.PlainRun.{left_by, plain_step, plain_run}
use Rattle.flat_machine.proofs.PlainRunLaws.{both_are, its_line}

-- ---- calls

-- an effect keeps such pages
abbrev pub EffectKeeps : Memory → Effect → Type 0
EffectKeeps memory (Runs regs env left) = KeepsReadOnly memory left
EffectKeeps memory (Yields regs env left) = KeepsReadOnly memory left
EffectKeeps memory (Spawns first regs env left) = KeepsReadOnly memory left
EffectKeeps memory (Finishes regs env left) = KeepsReadOnly memory left
EffectKeeps memory (Exits status regs env left) = KeepsReadOnly memory left
EffectKeeps memory (effect.Traps cause value) = Unit {0}

answers_keep : (regs : Registers) (env : Environment) (memory left : Memory) (answer : ℕ) → KeepsReadOnly memory left → EffectKeeps memory (answers regs env left answer)
unfolding answers
answers_keep regs env memory left answer keeps = keeps

read_keeps : (regs : Registers) (env : Environment) (memory : Memory) (count : ℕ) (copied : Result Memory MemoryFault) → ((left : Memory) → copied ≡ Ok left → KeepsReadOnly memory left)
    → EffectKeeps memory (did_read regs env memory count copied)
read_keeps regs env memory count (Ok left) keeps = answers_keep regs _ memory left count (keeps left refl)
read_keeps regs env memory count (Err fault) keeps = answers_keep regs env memory memory bad_address (kept_itself memory)

if_keeps : (b : Bool) (memory : Memory) (first other : Effect) → EffectKeeps memory first → EffectKeeps memory other → EffectKeeps memory (if b then first else other)
if_keeps true memory first other h g = h
if_keeps false memory first other h g = g

wrote_keeps : (regs : Registers) (env : Environment) (memory : Memory) (count : ℕ) (copied : Result (List ℕ) MemoryFault) → EffectKeeps memory (wrote regs env memory count copied)
wrote_keeps regs env memory count (Ok bytes) = answers_keep regs _ memory memory count (kept_itself memory)
wrote_keeps regs env memory count (Err fault) = answers_keep regs env memory memory bad_address (kept_itself memory)

break_keeps : (regs : Registers) (env : Environment) (memory : Memory) (request : ℕ) (granted : Bool) → EffectKeeps memory (moved_break regs env memory request granted)
break_keeps regs env memory request true = answers_keep regs _ memory _ request (zeroed_keeps (pages_up_to env.break_at) (pages_to_add env request) memory)
break_keeps regs env memory request false = answers_keep regs env memory memory env.break_at (kept_itself memory)

ended_keeps : (regs : Registers) (env : Environment) (memory : Memory) (left : List Bool) (some : Bool) → EffectKeeps memory (ended regs env memory left some)
ended_keeps regs env memory left true = kept_itself memory
ended_keeps regs env memory left false = kept_itself memory

spawned_keeps : (regs : Registers) (env : Environment) (memory : Memory) (room : Bool) → EffectKeeps memory (spawned regs env memory room)
spawned_keeps regs env memory true = kept_itself memory
spawned_keeps regs env memory false = answers_keep regs env memory memory no_more_harts (kept_itself memory)

whole_read_keeps : (regs : Registers) (env : Environment) (memory : Memory) (address wanted : ℕ) → EffectKeeps memory (read regs env memory address wanted)
unfolding read
whole_read_keeps regs env memory address wanted =
    let count = count_to_read env address wanted in
    let copied = copied_in memory address (take count env.input) in
    if_keeps (wanted == 0) memory (answers regs env memory 0) (did_read regs env memory count copied) (answers_keep regs env memory memory 0 (kept_itself memory))
    (read_keeps regs env memory count copied (λ left is. copied_keeps memory address (take count env.input) left is))

whole_write_keeps : (regs : Registers) (env : Environment) (memory : Memory) (address wanted : ℕ) → EffectKeeps memory (write regs env memory address wanted)
unfolding write
whole_write_keeps regs env memory address wanted =
    let count = count_in_page address wanted in
    if_keeps (wanted == 0) memory (answers regs env memory 0) (wrote regs env memory count (copied_out memory address count)) (answers_keep regs env memory memory 0 (kept_itself memory))
    (wrote_keeps regs env memory count (copied_out memory address count))

called_keeps : (hart : ℕ) (regs : Registers) (env : Environment) (memory : Memory) (which : Option SomeCall) → EffectKeeps memory (called hart regs env memory which)
unfolding end_hart move_break spawn
called_keeps hart regs env memory (Some Read) = whole_read_keeps regs env memory (register regs a1) (register regs a2)
called_keeps hart regs env memory (Some Write) = whole_write_keeps regs env memory (register regs a1) (register regs a2)
called_keeps hart regs env memory (Some EndHart) = ended_keeps regs env memory (without hart env.live) (any_live (without hart env.live))
called_keeps hart regs env memory (Some EndProcess) = kept_itself memory
called_keeps hart regs env memory (Some Yield) = kept_itself memory
called_keeps hart regs env memory (Some Break) = break_keeps regs env memory (register regs a0) (is_granted env (register regs a0))
called_keeps hart regs env memory (Some Spawn) = spawned_keeps regs env memory (nat_lt (length env.live) most_harts)
called_keeps hart regs env memory (Some HartNumber) = answers_keep regs env memory memory hart (kept_itself memory)
called_keeps hart regs env memory None = answers_keep regs env memory memory no_such_call (kept_itself memory)

call_keeps : (hart : ℕ) (regs : Registers) (env : Environment) (memory : Memory) → EffectKeeps memory (call hart regs env memory)
unfolding call
call_keeps hart regs env memory = called_keeps hart regs env memory (call_of (register regs a7))

line_effect_keeps : (hart : ℕ) (regs : Registers) (env : Environment) (memory : Memory) (l : Line) → LineKeeps memory l → EffectKeeps memory (effect_of hart regs env memory l)
line_effect_keeps hart regs env memory (Next regs' left) keeps = keeps
line_effect_keeps hart regs env memory Call keeps = call_keeps hart regs env memory
line_effect_keeps hart regs env memory (Traps cause value) keeps = tt

pub effect_keeps : (hart : ℕ) (regs : Registers) (env : Environment) (memory : Memory) → EffectKeeps memory (effect_at hart regs env memory)
unfolding effect_at
effect_keeps hart regs env memory = line_effect_keeps hart regs env memory (line hart regs memory) (line_keeps hart regs memory)

-- what a whole step leaves
pub stepped_keeps : (what : Stepped) (e : Effect) (regs : Registers) (env : Environment) (memory left : Memory) → EffectKeeps memory e → IsEffect e what regs env left → Stays (Ok what) (left ≡ memory) → KeepsReadOnly memory left
stepped_keeps stepped.Ran e regs env memory left keeps is stays = subst (EffectKeeps memory) is keeps
stepped_keeps stepped.Yielded e regs env memory left keeps is stays = subst (EffectKeeps memory) is keeps
stepped_keeps (stepped.Spawned hart first) e regs env memory left keeps is stays = subst (EffectKeeps memory) is.0 keeps
stepped_keeps stepped.HartDone e regs env memory left keeps is stays = subst (EffectKeeps memory) is keeps
stepped_keeps (stepped.Exited status) e regs env memory left keeps is stays = subst (EffectKeeps memory) is keeps
stepped_keeps (stepped.Trapped cause value) e regs env memory left keeps is stays = subst (KeepsReadOnly memory) (sym stays) (kept_itself memory)

-- ---- plain runs

plain_keeps_step : (hart : ℕ) (now : Option (Registers × Memory)) (first : Memory) (regs : Registers) (memory : Memory) → ((r : Registers) (m : Memory) → now ≡ Some (r, m) → KeepsReadOnly first m)
    → option_and_then (plain_step hart) now ≡ Some (regs, memory) → KeepsReadOnly first memory
plain_keeps_step hart None first regs memory before h = absurd (none-some _ h)
plain_keeps_step hart (Some now) first regs memory before h =
    kept_on first now.1 memory (before now.0 now.1 refl) (next_keeps hart now.0 regs now.1 memory (its_line (line hart now.0 now.1) regs memory h))

pub plain_keeps : (hart n : ℕ) (first : Registers) (old : Memory) (regs : Registers) (memory : Memory) → plain_run hart n first old ≡ Some (regs, memory) → KeepsReadOnly old memory
unfolding plain_run
plain_keeps hart zero first old regs memory h = subst (KeepsReadOnly old) (both_are first regs old memory h).1 (kept_itself old)
plain_keeps hart (suc n) first old regs memory h = plain_keeps_step hart (plain_run hart n first old) old regs memory (λ r m is. plain_keeps hart n first old r m is) h

none_added : (n : ℕ) → n + zero ≡ n
none_added n = omega arith

one_added : (n m : ℕ) → n + suc m ≡ suc (n + m)
one_added n m = omega arith

added : (hart n m : ℕ) (first : Registers) (old : Memory) (regs : Registers) (now : Memory) → plain_run hart n first old ≡ Some (regs, now) → plain_run hart (n + m) first old ≡ plain_run hart m regs now
unfolding plain_run
added hart n zero first old regs now before = ap (λ k. plain_run hart k first old) (none_added n) ∙ before
added hart n (suc m) first old regs now before = ap (λ k. plain_run hart k first old) (one_added n m) ∙ ap (option_and_then (plain_step hart)) (added hart n m first old regs now before)

-- one plain run after another
pub plain_on : (hart n m : ℕ) (first : Registers) (old : Memory) (regs : Registers) (now : Memory) (regs' : Registers) (now' : Memory)
    → plain_run hart n first old ≡ Some (regs, now) → plain_run hart m regs now ≡ Some (regs', now') → plain_run hart (n + m) first old ≡ Some (regs', now')
plain_on hart n m first old regs now regs' now' before later = added hart n m first old regs now before ∙ later

-- steps one after another are a plain run, whatever is at hand
pub iterated : (serves : Memory → Access → ℕ → Type 0) (stays : Memory → Memory → Type 0) (hart n : ℕ) (a b : Registers × Memory) → Iterates (Steps {B = Memory} (λ m. m) serves stays) n a b → plain_run hart n a.0 a.1 ≡ Some b
unfolding Iterates plain_run
iterated serves stays hart zero a b same = ap Some (sym same)
iterated serves stays hart (suc n) a b run = ap (option_and_then (plain_step hart)) (iterated serves stays hart n a run.0 run.1.0) ∙ ap left_by (run.1.1.its_line hart)

-- ---- the parts of a run

pub parts_counted : (most left allowed part_left ran words words_left : ℕ) → left ≤ most → allowed ≤ left → part_left ≤ allowed → ran ≡ allowed - part_left → words ≤ part_left → words_left ≤ words
    → most - (left - ran - (words - words_left)) ≡ most - left + (allowed - part_left) + (words - words_left)
parts_counted most left allowed part_left ran words words_left a b c is d e = omega arith

pub part_within : (most left ran words : ℕ) → left ≤ most → left - ran - words ≤ most
part_within most left ran words h = omega arith
