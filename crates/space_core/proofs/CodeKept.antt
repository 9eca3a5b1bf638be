-- Pages that may not be written stay as they are by runs of a flat process.
use Rattle.std.proofs.Common.{◌≡◌, [], ◌∷◌, ℕ, zero, suc, Bool, true, false, List, Option, Some, None, option_map, option_and_then, if◌then◌else◌, replicate, refl, sym, subst}
use Rattle.std.proofs.lemmas.Option.{none-some, same_Some}
use Rattle.page_memory.specs.ReadOnly.{KeepsReadOnly}
use Rattle.page_memory.proofs.KeptPages.{kept_itself, kept_on}
use Rattle.rv_exec.specs.Registers.{Registers}
use Rattle.env_calls.specs.Effect.{Effect, Runs, Yields, Spawns, Finishes, Exits, Traps}
use Rattle.env_calls.specs.Step.{effect}
use Rattle.flat_machine.proofs.PlainCode.{EffectKeeps, effect_keeps}
use Rattle.flat_machine.specs.Process.{Process, after, stepped, may_step, hart_registers, flat_step, flat_run}
use Rattle.paged_memory.specs.Paged.{memory_of}
use Rattle.space_core.specs.declared.progress.SliceStop.{SliceStop}
use Rattle.space_core.specs.StandsFor.{SpaceValue}
use Rattle.space_core.specs.Slicing.{shown_process}
use Rattle.space_core.specs.StepByStep.{SlicesOne, StepsOn, StepsLast, StepsEach}

-- one step of a hart
after_keeps : (hart : ℕ) (process : Process) (before : Registers) (e : Effect) → EffectKeeps process.memory e → KeepsReadOnly process.memory (after hart process before e).memory
after_keeps hart process before (Runs registers environment memory) keeps = keeps
after_keeps hart process before (Yields registers environment memory) keeps = keeps
after_keeps hart process before (Spawns first registers environment memory) keeps = keeps
after_keeps hart process before (Finishes registers environment memory) keeps = keeps
after_keeps hart process before (Exits status registers environment memory) keeps = keeps
after_keeps hart process before (Traps cause value) keeps = kept_itself process.memory

stepped_keeps : (hart : ℕ) (process new : Process) (o : Option Registers) → option_map (stepped hart process) o ≡ Some new → KeepsReadOnly process.memory new.memory
stepped_keeps hart process new None is = absurd (none-some _ is)
stepped_keeps hart process new (Some registers) is =
    subst (λ (p : Process). KeepsReadOnly process.memory p.memory) (same_Some _ _ is)
    (after_keeps hart process registers (effect hart registers process.environment process.memory) (effect_keeps hart registers process.environment process.memory))

chosen_keeps : (hart : ℕ) (process new : Process) (may : Bool) (o : Option Process) → ((p : Process) → o ≡ Some p → KeepsReadOnly process.memory p.memory) → (if may then o else None) ≡ Some new → KeepsReadOnly process.memory new.memory
chosen_keeps hart process new true o keeps is = keeps new is
chosen_keeps hart process new false o keeps is = absurd (none-some _ is)

step_keeps : (hart : ℕ) (process new : Process) → flat_step hart process ≡ Some new → KeepsReadOnly process.memory new.memory
unfolding flat_step
step_keeps hart process new is =
    chosen_keeps hart process new (may_step hart process) (option_map (stepped hart process) (hart_registers hart process)) (λ p. stepped_keeps hart process p (hart_registers hart process)) is

-- so many steps
then_keeps : (harts : List ℕ) (process new : Process) (o : Option Process) → ((p : Process) → o ≡ Some p → KeepsReadOnly process.memory p.memory) → ((p q : Process) → flat_run harts p ≡ Some q → KeepsReadOnly p.memory q.memory)
    → option_and_then (flat_run harts) o ≡ Some new → KeepsReadOnly process.memory new.memory
then_keeps harts process new None first rest is = absurd (none-some _ is)
then_keeps harts process new (Some between) first rest is = kept_on process.memory between.memory new.memory (first between refl) (rest between new is)

pub run_keeps : (harts : List ℕ) (process new : Process) → flat_run harts process ≡ Some new → KeepsReadOnly process.memory new.memory
unfolding flat_run
run_keeps [] process new is = subst (λ (p : Process). KeepsReadOnly process.memory p.memory) (same_Some _ _ is) (kept_itself process.memory)
run_keeps (hart ∷ harts) process new is = then_keeps harts process new (flat_step hart process) (λ p. step_keeps hart process p) (λ p q. run_keeps harts p q) is

-- instructions of a hart, as slices of one each
module _ {S : Type 0} (held : S → List ℕ) (honest : Type 0) (hart : ℕ) where
  one_keeps : (ran : ℕ) (why : SliceStop) (old new : SpaceValue S) → SlicesOne held honest hart ran why old new → KeepsReadOnly (memory_of held old.memory) (memory_of held new.memory)
  one_keeps ran why old new slice = run_keeps (replicate ran hart) (shown_process held old) (shown_process held new) slice.ran_is

  on_keeps : (n : ℕ) (old new : SpaceValue S) → StepsOn held honest hart n old new → KeepsReadOnly (memory_of held old.memory) (memory_of held new.memory)
  unfolding StepsOn
  on_keeps zero old new same = subst (λ (s : SpaceValue S). KeepsReadOnly (memory_of held old.memory) (memory_of held s.memory)) (sym same) (kept_itself (memory_of held old.memory))
  on_keeps (suc n) old new steps =
      kept_on (memory_of held old.memory) (memory_of held steps.0.memory) (memory_of held new.memory) (on_keeps n old steps.0 steps.1.0) (one_keeps 1 _ steps.0 new steps.1.1)

  last_keeps : (last : Option (ℕ × SliceStop)) (old new : SpaceValue S) → StepsLast held honest hart last old new → KeepsReadOnly (memory_of held old.memory) (memory_of held new.memory)
  last_keeps None old new same = subst (λ (s : SpaceValue S). KeepsReadOnly (memory_of held old.memory) (memory_of held s.memory)) (sym same) (kept_itself (memory_of held old.memory))
  last_keeps (Some last) old new slice = one_keeps last.0 last.1 old new slice

  pub each_keeps : (n : ℕ) (last : Option (ℕ × SliceStop)) (old new : SpaceValue S) → StepsEach held honest hart n last old new → KeepsReadOnly (memory_of held old.memory) (memory_of held new.memory)
  each_keeps n last old new each =
      kept_on (memory_of held old.memory) (memory_of held each.between.memory) (memory_of held new.memory) (on_keeps n old each.between each.on) (last_keeps last each.between new each.at_last)
