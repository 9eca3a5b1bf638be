-- What a step leaves, once it is settled, is the process after it.
use Rattle.std.proofs.Common.{◌≡◌, ◌<◌, ◌≤◌, ℕ, true, List, length, slice_set, slice_index_or, Option, Some, None, Ok, ap, ◌∙◌, sym, subst, arith, length-set, true≢false}
use Rattle.std.proofs.lemmas.List.{set-get_or}
use Rattle.page_memory.specs.Memory.{Memory}
use Rattle.rv_exec.specs.Registers.{Registers}
use Rattle.env_calls.specs.declared.stepping.Stepped.{Stepped}
use Rattle.env_calls.specs.declared.stepping.Stepped.TheVariants as stepped
use Rattle.env_calls.specs.Environment.{Environment}
use Rattle.env_calls.specs.Effect.{Runs, Yields, Spawns, Finishes, Exits, Traps}
use Rattle.env_calls.proofs.LiveLaws.{MarksAfter, marks_after}
use Rattle.env_calls.specs.Step.{effect}
use Rattle.env_calls.specs.Stepping.{IsEffect, Stays}
use Rattle.flat_machine.specs.declared.end.End.{End}
use Rattle.flat_machine.specs.declared.end.End.TheVariants.{Trapped}
use Rattle.flat_machine.specs.Process.{Process, IsWhole, may_step}
use Rattle.flat_machine.specs.Settling.{harts_after, ending_after, goes_alike, IfSpawns}
use Rattle.flat_machine.proofs.StepLaws.{Taken, taken, has_no_ending}

-- room for a hart that is started
pub room_to_spawn : (hart : ℕ) (process : Process) (r regs : Registers) (env : Environment) (memory : Memory) (s : Stepped) (capacity : ℕ)
    → IsWhole process → IsEffect (effect hart r process.environment process.memory) s regs env memory → 8 ≤ capacity
    → IfSpawns s (length (slice_set process.harts hart regs) < capacity)
room_to_spawn hart process r regs env memory stepped.Ran capacity whole is roomy = tt
room_to_spawn hart process r regs env memory stepped.Yielded capacity whole is roomy = tt
room_to_spawn hart process r regs env memory (stepped.Spawned number first) capacity whole is roomy =
    let few = (subst (MarksAfter hart process.environment.live) is.0 (marks_after hart r process.environment process.memory)).1 in
    let marked = whole.marked in
    let size : length (slice_set process.harts hart regs) ≡ length process.harts = length-set process.harts hart regs in
    omega arith
room_to_spawn hart process r regs env memory stepped.HartDone capacity whole is roomy = tt
room_to_spawn hart process r regs env memory (stepped.Exited status) capacity whole is roomy = tt
room_to_spawn hart process r regs env memory (stepped.Trapped cause value) capacity whole is roomy = tt

-- where registers stay, the harts do
pub harts_stay : (hart : ℕ) (harts : List Registers) (r regs : Registers) → r ≡ slice_index_or harts hart r → regs ≡ r → slice_set harts hart regs ≡ harts
harts_stay hart harts r regs are same = ap (slice_set harts hart) (same ∙ are) ∙ set-get_or harts hart r

pub settled : (hart : ℕ) (process now : Process) (r regs : Registers) (env : Environment) (memory : Memory) (s : Stepped)
    → IsWhole process → process ≡ now → may_step hart now ≡ true → r ≡ slice_index_or process.harts hart r
    → IsEffect (effect hart r process.environment process.memory) s regs env memory
    → Stays (Ok s) (regs ≡ r) → Stays (Ok s) (env ≡ process.environment) → Stays (Ok s) (memory ≡ process.memory)
    → Taken hart now (record { harts = harts_after s (slice_set process.harts hart regs); environment = env; memory = memory; ending = ending_after hart regs.pc s process.ending })
settled hart process now r regs env memory stepped.Ran whole same may are is regs_stay env_stays memory_stays =
    taken hart process now r (Runs regs env memory) whole same may are is
settled hart process now r regs env memory stepped.Yielded whole same may are is regs_stay env_stays memory_stays =
    taken hart process now r (Yields regs env memory) whole same may are is
settled hart process now r regs env memory (stepped.Spawned number first) whole same may are is regs_stay env_stays memory_stays =
    taken hart process now r (Spawns first regs env memory) whole same may are is.0
settled hart process now r regs env memory stepped.HartDone whole same may are is regs_stay env_stays memory_stays =
    taken hart process now r (Finishes regs env memory) whole same may are is
settled hart process now r regs env memory (stepped.Exited status) whole same may are is regs_stay env_stays memory_stays =
    taken hart process now r (Exits status regs env memory) whole same may are is
settled hart process now r regs env memory (stepped.Trapped cause value) whole same may are is regs_stay env_stays memory_stays =
    let done = taken hart process now r (Traps cause value) whole same may are is in
    let harts = harts_stay hart process.harts r regs are regs_stay in
    let pc : r.pc ≡ regs.pc = ap (λ (x : Registers). x.pc) (sym regs_stay) in
    subst (Taken hart now) (λ i. record { harts = sym harts i; environment = sym env_stays i; memory = sym memory_stays i; ending = Some (Trapped hart cause (pc i) value) }) done

-- the same, by the parts that are left
pub settled_as : (hart : ℕ) (process now : Process) (r regs : Registers) (env : Environment) (memory : Memory) (s : Stepped) (harts : List Registers) (ending : Option End) (pc : ℕ)
    → harts ≡ harts_after s (slice_set process.harts hart regs) → ending ≡ ending_after hart pc s process.ending → pc ≡ regs.pc
    → Taken hart now (record { harts = harts_after s (slice_set process.harts hart regs); environment = env; memory = memory; ending = ending_after hart regs.pc s process.ending })
    → Taken hart now (record { harts = harts; environment = env; memory = memory; ending = ending })
settled_as hart process now r regs env memory s harts ending pc harts_are ending_is pc_is done =
    let ends : ending_after hart regs.pc s process.ending ≡ ending = ap (λ p. ending_after hart p s process.ending) (sym pc_is) ∙ sym ending_is in
    subst (Taken hart now) (λ i. record { harts = sym harts_are i; environment = env; memory = memory; ending = ends i }) done

-- where the process goes on alike, it has no ending, and its marks are the same
pub went_alike : (hart : ℕ) (process now : Process) (r regs : Registers) (env : Environment) (memory : Memory) (s : Stepped) (pc : ℕ)
    → process ≡ now → may_step hart now ≡ true → IsEffect (effect hart r process.environment process.memory) s regs env memory → goes_alike s ≡ true
    → (ending_after hart pc s process.ending ≡ None) × (env.live ≡ now.environment.live)
went_alike hart process now r regs env memory stepped.Ran pc same may is alike = (
  ap (λ (p : Process). p.ending) same ∙ has_no_ending hart now may,
  subst (MarksAfter hart process.environment.live) is (marks_after hart r process.environment process.memory) ∙ ap (λ (p : Process). p.environment.live) same,
)
went_alike hart process now r regs env memory stepped.Yielded pc same may is alike = (
  ap (λ (p : Process). p.ending) same ∙ has_no_ending hart now may,
  subst (MarksAfter hart process.environment.live) is (marks_after hart r process.environment process.memory) ∙ ap (λ (p : Process). p.environment.live) same,
)
went_alike hart process now r regs env memory (stepped.Spawned number first) pc same may is alike = absurd (true≢false (sym alike))
went_alike hart process now r regs env memory stepped.HartDone pc same may is alike = absurd (true≢false (sym alike))
went_alike hart process now r regs env memory (stepped.Exited status) pc same may is alike = absurd (true≢false (sym alike))
went_alike hart process now r regs env memory (stepped.Trapped cause value) pc same may is alike = absurd (true≢false (sym alike))
