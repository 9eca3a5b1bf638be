-- Steps that neither call nor trap, one after another.
use Rattle.std.proofs.Common.{◌≡◌, ◌+◌, ◌<◌, ℕ, suc, true, slice_set, Option, Some, option_and_then, unwrap_or, ap, ◌∙◌, refl, sym, subst, arith, length-set}
use Rattle.std.proofs.lemmas.Option.{slice_get-get_or, none-some}
use Rattle.std.proofs.lemmas.List.{set-set, get_or-set_same}
use Rattle.page_memory.specs.Memory.{Memory}
use Rattle.rv_exec.specs.Registers.{Registers}
use Rattle.rv_exec.specs.Line.{Line, Next, Call, Traps, line}
use Rattle.env_calls.specs.Effect.{Runs}
use Rattle.env_calls.proofs.StepLaws.{effect_next}
use Rattle.flat_machine.specs.Process.{Process, IsWhole, hart_registers, may_step, with_hart, flat_step}
use Rattle.flat_machine.specs.PlainRun.{left_by, plain_step, plain_run}
use Rattle.flat_machine.proofs.StepLaws.{started, step_is}

-- no step, and one more
pub plain_none : (hart : ℕ) (registers : Registers) (memory : Memory) → plain_run hart 0 registers memory ≡ Some (registers, memory)
unfolding plain_run
plain_none hart registers memory = refl

pub next_is : (n : ℕ) → suc n ≡ n + 1
next_is n = omega arith

pub plain_more : (hart n : ℕ) (first : Registers) (memory : Memory) (registers : Registers) (now : Memory) (registers' : Registers) (now' : Memory)
    → plain_run hart n first memory ≡ Some (registers, now) → line hart registers now ≡ Next registers' now' → plain_run hart (n + 1) first memory ≡ Some (registers', now')
unfolding plain_run
plain_more hart n first memory registers now registers' now' ran next =
    ap (λ k. plain_run hart k first memory) (sym (next_is n)) ∙ ap (option_and_then (plain_step hart)) ran ∙ ap left_by next

pub both_are : (r r' : Registers) (m m' : Memory) → ◌≡◌ {A = Option (Registers × Memory)} (Some (r, m)) (Some (r', m')) → (r ≡ r') × (m ≡ m')
both_are r r' m m' e = (ap (λ o. (unwrap_or {T = Registers × Memory} o (r, m)).0) e, ap (λ o. (unwrap_or {T = Registers × Memory} o (r, m)).1) e)

-- what a step that is one of these leaves is its line's
pub its_line : (l : Line) (registers' : Registers) (memory' : Memory) → left_by l ≡ Some (registers', memory') → l ≡ Next registers' memory'
its_line (Next r m) registers' memory' e = let same = both_are r registers' m memory' e in (λ i. Next (same.0 i) (same.1 i))
its_line Call registers' memory' e = absurd (none-some _ e)
its_line (Traps cause value) registers' memory' e = absurd (none-some _ e)

-- it is a step of the process
pub one_step : (hart : ℕ) (process : Process) (registers : Registers) (memory : Memory) (registers' : Registers) (memory' : Memory)
    → IsWhole process → may_step hart process ≡ true → line hart registers memory ≡ Next registers' memory'
    → flat_step hart (with_hart hart registers process.environment memory process) ≡ Some (with_hart hart registers' process.environment memory' process)
one_step hart process registers memory registers' memory' whole may next =
    let now : Process = with_hart hart registers process.environment memory process in
    let within = started hart process whole may in
    let there : hart_registers hart now ≡ Some registers =
    slice_get-get_or (slice_set process.harts hart registers) hart registers (subst (λ n. hart < n) (sym (length-set process.harts hart registers)) within)
    ∙ ap Some (get_or-set_same process.harts hart registers registers within) in
    step_is hart now registers (Runs registers' process.environment memory') may there (effect_next hart registers process.environment memory registers' memory' next)
    ∙ ap (λ l. Some (record { harts = l; environment = process.environment; memory = memory'; ending = process.ending })) (set-set process.harts hart registers registers')
