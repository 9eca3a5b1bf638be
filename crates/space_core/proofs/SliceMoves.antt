-- A slice's instructions, one after another.
use Rattle.std.proofs.Common.{◌≡◌, ◌+◌, ◌-◌, ◌∷◌, [], ℕ, true, false, cond, List, slice_index_or, replicate, Option, Some, None, option_map, unwrap_or, inl, inr, ap, ◌∙◌, sym, subst, arith}
use Rattle.std.proofs.lemmas.Bool.Decides.{eqb_tells, leb_tells}
use Rattle.std.proofs.lemmas.Option.{none-some}
use Rattle.std.proofs.lemmas.List.{get_or_append_left, replicate-append-replicate}
use Rattle.rv_exec.specs.Registers.{Registers}
use Rattle.rv_exec.specs.Outcomes.{Used}
use Rattle.env_calls.specs.Effect.{Effect, Runs, Yields, Spawns, Finishes, Exits, Traps}
use Rattle.env_calls.proofs.LiveLaws.{MarksAfter, marks_after}
use Rattle.env_calls.specs.Step.{effect}
use Rattle.flat_machine.specs.Process.{Process, hart_registers, is_live, may_step, stepped, after, flat_step, flat_run}
use Rattle.flat_machine.proofs.RunLaws.{flat_run_append}
use Rattle.flat_machine.proofs.StepLaws.{both, has_no_ending, goes_on_alike, may_step_when_live, marked_within}
use Rattle.space_core.specs.declared.progress.Progress.{Progress}
use Rattle.space_core.specs.declared.progress.SliceStop.TheVariants as stop
use Rattle.space_core.specs.Next.{next_effect, next_progress, progress_of, stop_after}
use Rattle.space_core.specs.Slices.{EachStep}

-- ---- what holds before each of so many

pub each_none : (P : Process → Type 0) (hart : ℕ) (before : Process) → EachStep P hart 0 before
each_none P hart before = λ done at h e. absurd (omega (arith, h))

pub each_more : (P : Process → Type 0) (hart count : ℕ) (before between : Process) → EachStep P hart count before → flat_run (replicate count hart) before ≡ Some between → P between → EachStep P hart (count + 1) before
each_more P hart count before between each reached here = λ done at h e.
    elim (eqb_tells done count) [
      | inl same ↦ subst P (ap (λ o. unwrap_or o between) (sym reached ∙ ap (λ n. flat_run (replicate n hart) before) (sym same.1) ∙ e)) here
      | inr other ↦ each done at (let differs = other.1 in omega (arith, h)) e
    ]

-- pages that were had and marked
pub used_on : (has marks has' marks' : ℕ → Type 0) (pages : List ℕ) → ((page : ℕ) → has page → has' page) → ((page : ℕ) → marks page → marks' page) → Used has marks pages → Used has' marks' pages
used_on has marks has' marks' pages had marked used = (λ k d h. had _ (used.0 k d h), λ k d h. marked _ (used.1 k d h))

-- ---- a hart that goes on may step again

by_effect : (hart : ℕ) (p q : Process) (r : Registers) (e : Effect) → may_step hart p ≡ true → MarksAfter hart p.environment.live e → after hart p r e ≡ q → stop_after (progress_of e) ≡ stop.Budget → may_step hart q ≡ true
by_effect hart p q r (Runs regs env memory) now marks is goes =
    subst (λ x. may_step hart x ≡ true) is (goes_on_alike hart p (after hart p r (Runs regs env memory)) now (has_no_ending hart p now) marks)
by_effect hart p q r (Spawns first regs env memory) now marks is goes =
    let live = p.environment.live in
    let lives : slice_index_or live hart false ≡ true = (both _ (is_live hart p) now).1 in
    let more : slice_index_or env.live hart false ≡ true = ap (λ l. slice_index_or l hart false) marks.0 ∙ get_or_append_left live (true ∷ []) false hart (marked_within live hart lives) ∙ lives in
    subst (λ x. may_step hart x ≡ true) is (may_step_when_live hart (after hart p r (Spawns first regs env memory)) (has_no_ending hart p now) more)
by_effect hart p q r (Yields regs env memory) now marks is goes = cc
by_effect hart p q r (Finishes regs env memory) now marks is goes = cc
by_effect hart p q r (Exits status regs env memory) now marks is goes = cc
by_effect hart p q r (Traps cause value) now marks is goes = cc

by_registers : (hart : ℕ) (p q : Process) (what : Progress) (o : Option Registers) → may_step hart p ≡ true → option_map (stepped hart p) o ≡ Some q
    → option_map progress_of (option_map (λ registers. effect hart registers p.environment p.memory) o) ≡ Some what → stop_after what ≡ stop.Budget → may_step hart q ≡ true
by_registers hart p q what None now step was goes = absurd (none-some _ step)
by_registers hart p q what (Some r) now step was goes =
    by_effect hart p q r (effect hart r p.environment p.memory) now (marks_after hart r p.environment p.memory)
    (ap (λ o. unwrap_or o q) step) (ap (λ o. stop_after (unwrap_or o what)) was ∙ goes)

-- it may step again
pub still_may : (hart : ℕ) (p q : Process) (what : Progress) → may_step hart p ≡ true → flat_step hart p ≡ Some q → next_progress hart p ≡ Some what → stop_after what ≡ stop.Budget → may_step hart q ≡ true
unfolding flat_step next_progress next_effect
still_may hart p q what now step was goes =
    by_registers hart p q what (hart_registers hart p) now
    (ap (λ b. cond b (option_map (stepped hart p) (hart_registers hart p)) None) (sym now) ∙ step) was goes

-- ---- and then before each of so many more

pub each_append : (P : Process → Type 0) (hart n m : ℕ) (before between : Process) → EachStep P hart n before → flat_run (replicate n hart) before ≡ Some between → EachStep P hart m between → EachStep P hart (n + m) before
each_append P hart n m before between first reached rest = λ done at h e.
    elim (leb_tells n done) [
      | inr below ↦ first done at (let less = below.1 in omega arith) e
      | inl above ↦
          let least = above.1 in
          let sum : n + (done - n) ≡ done = omega arith in
          rest (done - n) at (omega arith)
          (sym (flat_run_append (replicate n hart) (replicate (done - n) hart) before between reached) ∙ ap (λ l. flat_run l before) (replicate-append-replicate n (done - n) hart) ∙ ap (λ k. flat_run (replicate k hart) before) sum ∙ e)
    ]
