-- Runs one after another, by a schedule and by turns.
use Rattle.std.specs.Prelude.{◌≡◌, ℕ, zero, suc, ◌+◌, List, [], ◌∷◌, ◌++◌, replicate, Option, Some, None, option_map, option_and_then, unwrap_or}
use Rattle.std.proofs.Common.{refl, sym, ap, ◌∙◌, zero-add, suc-add}
use Rattle.std.proofs.lemmas.Option.{none-some}
use Rattle.std.proofs.lemmas.List.{replicate-append-replicate}
use Rattle.flat_machine.specs.Process.{Process, flat_step, flat_run}
use Rattle.flat_machine.specs.ByTurns.{turn_after, by_turns, turns}

-- ---- by a schedule

-- no step leaves the process as it is
pub flat_run_none : (process : Process) → flat_run [] process ≡ Some process
unfolding flat_run
flat_run_none process = refl

-- one step
pub flat_run_one : (hart : ℕ) (before after : Process) → flat_step hart before ≡ Some after → flat_run (hart ∷ []) before ≡ Some after
unfolding flat_run
flat_run_one hart before after step = ap (option_and_then (flat_run [])) step

-- a run of two parts
pub flat_run_append : (xs ys : List ℕ) (before between : Process) → flat_run xs before ≡ Some between → flat_run (xs ++ ys) before ≡ flat_run ys between
unfolding flat_run
flat_run_append [] ys before between e = ap (option_and_then (flat_run ys)) e
flat_run_append (x ∷ xs) ys before between e =
    elim (flat_step x before) as (λ o. option_and_then (flat_run xs) o ≡ Some between → option_and_then (flat_run (xs ++ ys)) o ≡ flat_run ys between) [
      | None ↦ λ never. absurd (none-some _ never)
      | Some next ↦ λ f. flat_run_append xs ys next between f
    ] e

-- a run and one more step
pub flat_run_more : (xs : List ℕ) (hart : ℕ) (before between after : Process) → flat_run xs before ≡ Some between → flat_step hart between ≡ Some after → flat_run (xs ++ hart ∷ []) before ≡ Some after
flat_run_more xs hart before between after ran step = flat_run_append xs (hart ∷ []) before between ran ∙ flat_run_one hart between after step

-- more steps of a hart
pub more_steps : (k n hart : ℕ) (before between after : Process) → flat_run (replicate k hart) before ≡ Some between → flat_run (replicate n hart) between ≡ Some after → flat_run (replicate (k + n) hart) before ≡ Some after
more_steps k n hart before between after ran more =
    ap (λ l. flat_run l before) (sym (replicate-append-replicate k n hart)) ∙ flat_run_append (replicate k hart) (replicate n hart) before between ran ∙ more

-- one more step of a hart
pub one_more_step : (k hart : ℕ) (before between after : Process) → flat_run (replicate k hart) before ≡ Some between → flat_step hart between ≡ Some after → flat_run (replicate (k + 1) hart) before ≡ Some after
one_more_step k hart before between after ran step =
    ap (λ l. flat_run l before) (sym (replicate-append-replicate k 1 hart)) ∙ flat_run_more (replicate k hart) hart before between after ran step

-- ---- by turns

pub by_turns_none : (hart : ℕ) (process : Process) → by_turns 0 hart process ≡ Some (hart, process)
unfolding by_turns
by_turns_none hart process = refl

-- one step by turns
pub by_turns_one : (hart : ℕ) (before after : Process) → flat_step hart before ≡ Some after → by_turns 1 hart before ≡ Some (turn_after hart after, after)
unfolding by_turns
by_turns_one hart before after step = ap (option_and_then (λ next. by_turns 0 (turn_after hart next) next)) step

pub both_are : (hart turn : ℕ) (p q : Process) → ◌≡◌ {A = Option (ℕ × Process)} (Some (hart, p)) (Some (turn, q)) → (hart ≡ turn) × (p ≡ q)
both_are hart turn p q e = (ap (λ o. (unwrap_or {T = ℕ × Process} o (hart, p)).0) e, ap (λ o. (unwrap_or {T = ℕ × Process} o (hart, p)).1) e)

-- so many steps by turns, and so many more
pub by_turns_append : (n m hart turn : ℕ) (before between : Process) → by_turns n hart before ≡ Some (turn, between) → by_turns (n + m) hart before ≡ by_turns m turn between
unfolding by_turns
by_turns_append zero m hart turn before between e =
    let parts = both_are hart turn before between e in
    ap (λ n. by_turns n hart before) (zero-add m) ∙ ap (λ h. by_turns m h before) parts.0 ∙ ap (by_turns m turn) parts.1
by_turns_append (suc n) m hart turn before between e =
    ap (λ k. by_turns k hart before) (suc-add n m)
    ∙ elim (flat_step hart before) as (λ o. option_and_then (λ next. by_turns n (turn_after hart next) next) o ≡ Some (turn, between) → option_and_then (λ next. by_turns (n + m) (turn_after hart next) next) o ≡ by_turns m turn between) [
      | None ↦ λ never. absurd (none-some _ never)
      | Some next ↦ λ f. by_turns_append n m (turn_after hart next) turn next between f
    ] e

-- one more step by turns
pub by_turns_more : (n hart turn : ℕ) (before between after : Process) → by_turns n hart before ≡ Some (turn, between) → flat_step turn between ≡ Some after
    → by_turns (n + 1) hart before ≡ Some (turn_after turn after, after)
by_turns_more n hart turn before between after ran step = by_turns_append n 1 hart turn before between ran ∙ by_turns_one turn between after step

-- steps by turns are the flat run of the harts whose turns they were
pub by_turns_run : (n hart turn : ℕ) (before after : Process) → by_turns n hart before ≡ Some (turn, after) → flat_run (turns n hart before) before ≡ Some after
unfolding by_turns turns flat_run
by_turns_run zero hart turn before after e = let parts = both_are hart turn before after e in ap Some parts.1
by_turns_run (suc n) hart turn before after e =
    elim (flat_step hart before) as (λ o. option_and_then (λ next. by_turns n (turn_after hart next) next) o ≡ Some (turn, after)
    → option_and_then (flat_run (unwrap_or (option_map (λ next. turns n (turn_after hart next) next) o) [])) o ≡ Some after) [
      | None ↦ λ never. absurd (none-some _ never)
      | Some next ↦ λ f. by_turns_run n (turn_after hart next) turn next after f
    ] e
