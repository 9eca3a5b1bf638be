-- Which marks instructions in a row may set.
use Rattle.std.proofs.Common.{◌≡◌, ◌+◌, [], ℕ, Bool, replicate, Some, option_map, unwrap_or, ap, ◌∙◌, sym, subst, arith}
use Rattle.std.proofs.lemmas.List.{replicate-append-replicate}
use Rattle.rv_exec.specs.Bounds.{Pass, Bounds}
use Rattle.rv_exec.specs.Registers.{Registers}
use Rattle.env_calls.specs.Step.{step_pages, step_stores}
use Rattle.flat_machine.specs.Process.{Process, hart_registers, flat_run}
use Rattle.flat_machine.proofs.RunLaws.{flat_run_none, flat_run_append}
use Rattle.space_core.specs.Next.{next_pages, next_stores}
use Rattle.space_core.specs.Slices.{BoundsEach}
use Rattle.space_core.proofs.StepMoves.{pages_are}

abbrev Marked : Type 1
Marked = (ℕ → Bool) → (ℕ → Bool) → Type 0

pub stores_are : (hart : ℕ) (process : Process) (r : Registers) → hart_registers hart process ≡ Some r → next_stores hart process ≡ step_stores hart r process.memory
unfolding next_stores
stores_are hart process r are = ap (λ o. unwrap_or (option_map (λ registers. step_stores hart registers process.memory) o) []) are

pub next_bound : (before after : Marked) (hart : ℕ) (process : Process) (r : Registers) → hart_registers hart process ≡ Some r
    → Bounds before after (step_pages hart r process.memory) (step_stores hart r process.memory) → Bounds before after (next_pages hart process) (next_stores hart process)
next_bound before after hart process r are one = record {
  bound = λ u s passes stores was. one.bound u s (subst (Pass u) (pages_are hart process r are) passes) (subst (Pass s) (stores_are hart process r are) stores) was;
}

-- ---- one after another

pub bound_none : (marked : Marked) (hart count : ℕ) (before : Process) → BoundsEach marked marked hart count before
bound_none marked hart count before = record { bound = λ u s each was. was }

pub bound_then : (m m1 m2 : Marked) (hart n k : ℕ) (before between : Process) → flat_run (replicate n hart) before ≡ Some between
    → BoundsEach m m1 hart n before → BoundsEach m1 m2 hart k between → BoundsEach m m2 hart (n + k) before
bound_then m m1 m2 hart n k before between reached first rest = record {
  bound = λ u s each was.
      rest.bound u s (λ done at h e. each (n + done) at (omega (arith, h))
      (ap (λ l. flat_run l before) (sym (replicate-append-replicate n done hart)) ∙ flat_run_append (replicate n hart) (replicate done hart) before between reached ∙ e))
      (first.bound u s (λ done at h e. each done at (omega (arith, h)) e) was);
}

pub bound_one : (m m1 : Marked) (hart : ℕ) (before : Process) → Bounds m m1 (next_pages hart before) (next_stores hart before) → BoundsEach m m1 hart 1 before
bound_one m m1 hart before one = record {
  bound = λ u s each was. let here = each 0 before (omega arith) (flat_run_none before) in one.bound u s here.0 here.1 was;
}

pub bound_as : (m m1 : Marked) (hart n k : ℕ) (before : Process) → n ≡ k → BoundsEach m m1 hart n before → BoundsEach m m1 hart k before
bound_as m m1 hart n k before same bound = subst (λ c. BoundsEach m m1 hart c before) same bound
