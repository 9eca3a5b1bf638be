-- What a step over a bus is to the process that its memory makes of it.
use Rattle.std.proofs.Common.{◌≡◌, ◌<◌, [], ℕ, true, List, length, slice_set, slice_index_or, Option, Some, Result, Ok, Err, option_map, unwrap_or, ap, ◌∙◌, sym, subst, length-set}
use Rattle.std.proofs.lemmas.Option.{slice_get-get_or}
use Rattle.page_memory.specs.Memory.{Memory}
use Rattle.rv_exec.specs.Registers.{Registers}
use Rattle.rv_exec.specs.Outcomes.{Used}
use Rattle.env_calls.specs.declared.served.ServeStop.{ServeStop}
use Rattle.env_calls.specs.declared.served.ServeStop.TheVariants as serve
use Rattle.env_calls.specs.declared.stepping.Stepped.{Stepped}
use Rattle.env_calls.specs.declared.stepping.Stepped.TheVariants as stepped
use Rattle.env_calls.specs.Environment.{Environment}
use Rattle.env_calls.specs.Effect.{Effect}
use Rattle.env_calls.specs.Serving.{TakesMemory, UsesPages}
use Rattle.env_calls.specs.Step.{effect, step_pages}
use Rattle.env_calls.specs.Stepping.{IsEffect}
use Rattle.flat_machine.specs.declared.end.End.{End}
use Rattle.flat_machine.specs.Process.{Process, IsWhole, hart_registers, may_step}
use Rattle.flat_machine.specs.Refusals.{WantsMemory}
use Rattle.flat_machine.proofs.StepLaws.{started}
use Rattle.flat_machine.proofs.SettlingLaws.{harts_stay}
use Rattle.space_core.specs.declared.progress.Progress.{Progress}
use Rattle.space_core.specs.RunningValue.{RunningValue, with_memory}
use Rattle.space_core.specs.Next.{next_effect, next_progress, next_pages, progress_of, progress_of_step}

-- ---- the hart that steps

-- it was started
pub is_started : (hart : ℕ) (inside now : RunningValue) (memory : Memory) → IsWhole (with_memory inside memory) → inside ≡ now → may_step hart (with_memory now memory) ≡ true
    → hart < length inside.harts
is_started hart inside now memory whole same may = started hart (with_memory inside memory) whole (ap (λ v. may_step hart (with_memory v memory)) same ∙ may)

-- its registers
pub registers_are : (hart : ℕ) (inside now : RunningValue) (memory : Memory) (r : Registers) → IsWhole (with_memory inside memory) → inside ≡ now → may_step hart (with_memory now memory) ≡ true
    → r ≡ slice_index_or inside.harts hart r → hart_registers hart (with_memory now memory) ≡ Some r
registers_are hart inside now memory r whole same may are =
    ap (λ v. hart_registers hart (with_memory v memory)) (sym same) ∙ slice_get-get_or inside.harts hart r (is_started hart inside now memory whole same may) ∙ ap Some (sym are)

-- whole is a matter of harts and marks
pub whole_with : (value : RunningValue) (memory memory' : Memory) → IsWhole (with_memory value memory) → IsWhole (with_memory value memory')
whole_with value memory memory' whole = record { marked = whole.marked; few = whole.few; some = whole.some }

-- where it was not taken
pub whole_still : (hart : ℕ) (inside : RunningValue) (memory : Memory) (r regs : Registers) (env : Environment) → IsWhole (with_memory inside memory) → r ≡ slice_index_or inside.harts hart r → regs ≡ r → env ≡ inside.environment
    → IsWhole (record { harts = slice_set inside.harts hart regs; environment = env; memory = memory; ending = inside.ending })
whole_still hart inside memory r regs env whole are regs_stay env_stays =
    let harts = harts_stay hart inside.harts r regs are regs_stay in
    subst IsWhole (λ i. record { harts = sym harts i; environment = sym env_stays i; memory = memory; ending = inside.ending }) whole

-- ---- what it is

pub effect_is : (hart : ℕ) (process : Process) (r : Registers) → hart_registers hart process ≡ Some r → next_effect hart process ≡ Some (effect hart r process.environment process.memory)
unfolding next_effect
effect_is hart process r are = ap (option_map (λ registers. effect hart registers process.environment process.memory)) are

pub pages_are : (hart : ℕ) (process : Process) (r : Registers) → hart_registers hart process ≡ Some r → next_pages hart process ≡ step_pages hart r process.memory
unfolding next_pages
pages_are hart process r are = ap (λ o. unwrap_or (option_map (λ registers. step_pages hart registers process.memory) o) []) are

progress_is : (e : Effect) (s : Stepped) (regs : Registers) (env : Environment) (memory : Memory) → IsEffect e s regs env memory → progress_of e ≡ progress_of_step s
progress_is e stepped.Ran regs env memory is = ap progress_of is
progress_is e stepped.Yielded regs env memory is = ap progress_of is
progress_is e (stepped.Spawned number first) regs env memory is = ap progress_of is.0
progress_is e stepped.HartDone regs env memory is = ap progress_of is
progress_is e (stepped.Exited status) regs env memory is = ap progress_of is
progress_is e (stepped.Trapped cause value) regs env memory is = ap progress_of is

pub progressed : (hart : ℕ) (inside now : RunningValue) (memory : Memory) (r regs : Registers) (env : Environment) (memory' : Memory) (s : Stepped) → inside ≡ now → hart_registers hart (with_memory now memory) ≡ Some r
    → IsEffect (effect hart r inside.environment memory) s regs env memory' → next_progress hart (with_memory now memory) ≡ Some (progress_of_step s)
unfolding next_progress
progressed hart inside now memory r regs env memory' s same are is =
    ap (option_map progress_of) (effect_is hart (with_memory now memory) r are)
    ∙ ap (λ (v : RunningValue). Some (progress_of (effect hart r v.environment memory))) (sym same)
    ∙ ap Some (progress_is (effect hart r inside.environment memory) s regs env memory' is)

-- ---- the pages that it used

pub used_pages : (has marks : ℕ → Type 0) (hart : ℕ) (process : Process) (r : Registers) → hart_registers hart process ≡ Some r → Used has marks (step_pages hart r process.memory) → Used has marks (next_pages hart process)
used_pages has marks hart process r are used = subst (Used has marks) (sym (pages_are hart process r are)) used

pub stopped_pages : (has marks lacks : ℕ → Type 0) (hart : ℕ) (process : Process) (r : Registers) (stop : ServeStop) → hart_registers hart process ≡ Some r
    → UsesPages {A = Stepped} has marks lacks (step_pages hart r process.memory) (Err stop) → UsesPages {A = Progress} has marks lacks (next_pages hart process) (Err stop)
stopped_pages has marks lacks hart process r stop are uses =
    subst (λ pages. UsesPages {A = Progress} has marks lacks pages (Err stop)) (sym (pages_are hart process r are)) (same_stop stop uses)
  where
    same_stop : (stop : ServeStop) → UsesPages {A = Stepped} has marks lacks (step_pages hart r process.memory) (Err stop) → UsesPages {A = Progress} has marks lacks (step_pages hart r process.memory) (Err stop)
    same_stop (serve.Absent page) uses = uses
    same_stop serve.NoMemory uses = uses

-- ---- want of memory

abbrev stop_in : Result Progress ServeStop → ServeStop
stop_in (Ok progress) = serve.NoMemory
stop_in (Err stop) = stop

pub wants_memory : (hart : ℕ) (inside now : RunningValue) (memory : Memory) (r : Registers) (stop : ServeStop) → inside ≡ now → may_step hart (with_memory now memory) ≡ true → hart_registers hart (with_memory now memory) ≡ Some r
    → (◌≡◌ {A = Result Stepped ServeStop} (Err stop) (Err serve.NoMemory) → TakesMemory inside.environment (effect hart r inside.environment memory))
    → ◌≡◌ {A = Result Progress ServeStop} (Err stop) (Err serve.NoMemory) → WantsMemory hart (with_memory now memory)
wants_memory hart inside now memory r stop same may are takes is = record {
  may = may;
  registers = r;
  are = are;
  takes = subst (λ (v : RunningValue). TakesMemory v.environment (effect hart r v.environment memory)) same (takes (ap Err (ap stop_in is)));
}

-- ---- the ending

pub whole_ended : (harts : List Registers) (env : Environment) (memory : Memory) (ending ending' : Option End) → IsWhole (record { harts = harts; environment = env; memory = memory; ending = ending })
    → IsWhole (record { harts = harts; environment = env; memory = memory; ending = ending' })
whole_ended harts env memory ending ending' whole = record { marked = whole.marked; few = whole.few; some = whole.some }

-- what is left of a hart that went on is whole
pub whole_set : (hart : ℕ) (inside : RunningValue) (registers : Registers) (memory : Memory) → IsWhole (with_memory inside memory)
    → IsWhole (with_memory (record inside { harts = slice_set inside.harts hart registers }) memory)
whole_set hart inside registers memory whole = record { marked = length-set inside.harts hart registers ∙ whole.marked; few = whole.few; some = whole.some }
