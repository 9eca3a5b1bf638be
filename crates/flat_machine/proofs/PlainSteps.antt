-- Steps that neither call nor trap are steps of their process, and leave all but a hart's registers and the memory.
use Rattle.std.proofs.Common.{◌≡◌, ◌<◌, ℕ, zero, suc, true, slice_get, slice_set, slice_index_or, List, replicate, Option, Some, None, Result, Ok, Err, IfErr, option_and_then, unwrap_or, ap, ◌∙◌, refl, sym, subst, length-set}
use Rattle.std.proofs.lemmas.Option.{slice_get-get_or, none-some}
use Rattle.std.proofs.lemmas.List.{set-get_or, get_or-set_same}
use Rattle.page_memory.specs.Memory.{Memory}
use Rattle.rv_exec.specs.declared.outcome.Outcome.{Outcome}
use Rattle.rv_exec.specs.declared.outcome.Outcome.TheVariants as outcome
use Rattle.rv_exec.specs.Registers.{Registers}
use Rattle.rv_exec.specs.Line.{line}
use Rattle.env_calls.specs.declared.served.ServeStop.{ServeStop}
use Rattle.env_calls.specs.declared.served.ServeStop.TheVariants.{Absent, NoMemory}
use Rattle.env_calls.specs.declared.stepping.Stepped.{Stepped}
use Rattle.env_calls.specs.Calls.{call_pages}
use Rattle.env_calls.specs.Environment.{Environment}
use Rattle.env_calls.specs.Effect.{Runs}
use Rattle.env_calls.specs.Finishing.{rest_effect, RestUses}
use Rattle.env_calls.specs.Serving.{UsesPages}
use Rattle.env_calls.specs.Step.{effect}
use Rattle.env_calls.proofs.StepLaws.{effect_next, effect_call, effect_traps}
use Rattle.flat_machine.specs.Process.{Process, IsWhole, hart_registers, may_step, with_hart, flat_step, flat_run}
use Rattle.flat_machine.specs.ByTurns.{by_turns, turn_after}
use Rattle.flat_machine.proofs.RunLaws.{by_turns_none, flat_run_none, one_more_step}
use Rattle.flat_machine.specs.PlainRun.{plain_step, plain_run, StopsAs, StopsNext}
use Rattle.flat_machine.proofs.PlainRunLaws.{next_is, both_are, its_line, one_step}
use Rattle.flat_machine.proofs.StepLaws.{started, step_is}
use Rattle.flat_machine.proofs.Turning.{next_turn}

-- the process after steps of a hart that is alone
pub record Plainly (n hart : ℕ) (process : Process) (registers : Registers) (memory : Memory) : Type 0 where
  pub ran : by_turns n hart process ≡ Some (hart, with_hart hart registers process.environment memory process)

from_none : (hart : ℕ) (process : Process) (first registers : Registers) (memory : Memory) → first ≡ slice_index_or process.harts hart first
    → ◌≡◌ {A = Option (Registers × Memory)} (Some (first, process.memory)) (Some (registers, memory)) → Plainly 0 hart process registers memory
from_none hart process first registers memory are e =
    let same = both_are first registers process.memory memory e in
    let harts : slice_set process.harts hart registers ≡ process.harts = ap (slice_set process.harts hart) (sym same.0 ∙ are) ∙ set-get_or process.harts hart first in
    record { ran = by_turns_none hart process ∙ (λ i. Some (hart, record { harts = sym harts i; environment = process.environment; memory = same.1 i; ending = process.ending })) }

-- as many steps as a plain run has
pub taken_plainly : (n hart : ℕ) (process : Process) (first registers : Registers) (memory : Memory)
    → IsWhole process → may_step hart process ≡ true → turn_after hart process ≡ hart → first ≡ slice_index_or process.harts hart first
    → plain_run hart n first process.memory ≡ Some (registers, memory) → Plainly n hart process registers memory
unfolding plain_run
taken_plainly zero hart process first registers memory whole may alone are ran = from_none hart process first registers memory are ran
taken_plainly (suc n) hart process first registers memory whole may alone are ran =
    elim (plain_run hart n first process.memory) as (λ o. plain_run hart n first process.memory ≡ o → option_and_then (plain_step hart) o ≡ Some (registers, memory) → Plainly (suc n) hart process registers memory) [
      | None ↦ λ _ never. absurd (none-some _ never)
      | Some now ↦ λ before last.
          let sofar = taken_plainly n hart process first now.0 now.1 whole may alone are before in
          record {
            ran = ap (λ k. by_turns k hart process) (next_is n) ∙ next_turn n hart hart hart process (with_hart hart now.0 process.environment now.1 process) (with_hart hart registers process.environment memory process) sofar.ran
                (one_step hart process now.0 now.1 registers memory whole may (its_line (line hart now.0 now.1) registers memory last)) alone;
          }
    ] refl ran

-- no step at all leaves the process as it was
pub none_plainly : (n hart : ℕ) (process : Process) (first registers : Registers) (memory : Memory) → n ≡ 0 → first ≡ slice_index_or process.harts hart first
    → plain_run hart n first process.memory ≡ Some (registers, memory) → with_hart hart registers process.environment memory process ≡ process
unfolding plain_run
none_plainly n hart process first registers memory zero_steps are ran =
    let same = both_are first registers process.memory memory (ap (λ k. plain_run hart k first process.memory) (sym zero_steps) ∙ ran) in
    let harts : slice_set process.harts hart registers ≡ process.harts = ap (slice_set process.harts hart) (sym same.0 ∙ are) ∙ set-get_or process.harts hart first in
    (λ i. record { harts = harts i; environment = process.environment; memory = sym same.1 i; ending = process.ending })

-- the same as a run of the hart
pub run_plainly : (n hart : ℕ) (process : Process) (first registers : Registers) (memory : Memory)
    → IsWhole process → may_step hart process ≡ true → first ≡ slice_index_or process.harts hart first
    → plain_run hart n first process.memory ≡ Some (registers, memory) → flat_run (replicate n hart) process ≡ Some (with_hart hart registers process.environment memory process)
unfolding plain_run
run_plainly zero hart process first registers memory whole may are ran = flat_run_none process ∙ ap Some (sym (none_plainly 0 hart process first registers memory refl are ran))
run_plainly (suc n) hart process first registers memory whole may are ran =
    elim (plain_run hart n first process.memory) as (λ o. plain_run hart n first process.memory ≡ o → option_and_then (plain_step hart) o ≡ Some (registers, memory)
    → flat_run (replicate (suc n) hart) process ≡ Some (with_hart hart registers process.environment memory process)) [
      | None ↦ λ _ never. absurd (none-some _ never)
      | Some now ↦ λ before last.
          ap (λ k. flat_run (replicate k hart) process) (next_is n)
          ∙ one_more_step n hart process (with_hart hart now.0 process.environment now.1 process) (with_hart hart registers process.environment memory process)
          (run_plainly n hart process first now.0 now.1 whole may are before)
          (one_step hart process now.0 now.1 registers memory whole may (its_line (line hart now.0 now.1) registers memory last))
    ] refl ran

-- one step is the hart's
pub one_plainly : (n hart : ℕ) (process : Process) (first registers : Registers) (memory : Memory) → n ≡ 1 → IsWhole process → may_step hart process ≡ true → first ≡ slice_index_or process.harts hart first
    → plain_run hart n first process.memory ≡ Some (registers, memory) → flat_step hart process ≡ Some (with_hart hart registers process.environment memory process)
unfolding plain_run
one_plainly n hart process first registers memory one whole may are ran =
    let there : hart_registers hart process ≡ Some first = slice_get-get_or process.harts hart first (started hart process whole may) ∙ ap Some (sym are) in
    let step : plain_step hart (first, process.memory) ≡ Some (registers, memory) = ap (λ k. plain_run hart k first process.memory) (sym one) ∙ ran in
    step_is hart process first (Runs registers process.environment memory) may there
    (effect_next hart first process.environment process.memory registers memory (its_line (line hart first process.memory) registers memory step))

-- ---- the step behind them, which calls or traps

-- it is the hart's next one
pub stops_next : (hart : ℕ) (process : Process) (registers : Registers) (memory : Memory) (outcome : Outcome) → IsWhole process → may_step hart process ≡ true
    → StopsAs outcome (line hart registers memory) → StopsNext hart outcome (with_hart hart registers process.environment memory process)
unfolding StopsNext
stops_next hart process registers memory outcome whole may stops = λ seen are.
    let within = started hart process whole may in
    let there : slice_get (slice_set process.harts hart registers) hart ≡ Some registers =
    slice_get-get_or (slice_set process.harts hart registers) hart registers (subst (λ n. hart < n) (sym (length-set process.harts hart registers)) within)
    ∙ ap Some (get_or-set_same process.harts hart registers registers within) in
    let same : registers ≡ seen = ap (λ o. unwrap_or {T = Registers} o registers) (sym there ∙ are) in
    subst (λ r. StopsAs outcome (line hart r memory)) same stops

pub stops_there : (hart : ℕ) (process : Process) (registers : Registers) (outcome : Outcome) → StopsNext hart outcome process → hart_registers hart process ≡ Some registers
    → StopsAs outcome (line hart registers process.memory)
unfolding StopsNext
stops_there hart process registers outcome stops there = stops registers there

-- the whole step is what is left of it
pub rest_is_whole : (outcome : Outcome) (hart : ℕ) (registers : Registers) (env : Environment) (memory : Memory) → StopsAs outcome (line hart registers memory)
    → effect hart registers env memory ≡ rest_effect outcome hart registers env memory
rest_is_whole outcome.Done hart registers env memory stops = absurd stops
rest_is_whole outcome.Ecall hart registers env memory stops = effect_call hart registers env memory stops
rest_is_whole (outcome.Trap cause value) hart registers env memory stops = effect_traps hart registers env memory cause value stops
rest_is_whole (outcome.Absent page) hart registers env memory stops = absurd stops

-- where no page is lacked, memory alone may be wanting
call_wants : (pages : List ℕ) (result : Result Stepped ServeStop) → UsesPages (λ _. Unit {0}) (λ _. Unit {0}) (λ _. ⊥) pages result → IfErr result (λ stop. stop ≡ NoMemory)
call_wants pages (Ok stepped) used = tt
call_wants pages (Err (Absent page)) used = absurd used.1
call_wants pages (Err NoMemory) used = refl

pub rest_wants : (outcome : Outcome) (hart : ℕ) (registers : Registers) (memory : Memory) (result : Result Stepped ServeStop) → StopsAs outcome (line hart registers memory)
    → RestUses (λ _. Unit {0}) (λ _. Unit {0}) (λ _. ⊥) outcome registers memory result → IfErr result (λ stop. stop ≡ NoMemory)
rest_wants outcome.Done hart registers memory result stops used = absurd stops
rest_wants outcome.Ecall hart registers memory result stops used = call_wants (call_pages registers memory) result used
rest_wants (outcome.Trap cause value) hart registers memory result stops used = subst (λ (r : Result Stepped ServeStop). IfErr r (λ stop. stop ≡ NoMemory)) (sym used) tt
rest_wants (outcome.Absent page) hart registers memory result stops used = absurd stops
