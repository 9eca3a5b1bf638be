-- What a slice of a process on paged memory leaves.
use Rattle.std.proofs.Common.{◌≡◌, ◌∷◌, ◌≤◌, [], ℕ, Bool, true, false, cond, List, length, slice_set, Option, Some, None, option_map, option_and_then, unwrap_or, ap, ◌∙◌, refl, subst, sym, arith}
use Rattle.std.proofs.lemmas.Option.{none-some}
use Rattle.std.proofs.lemmas.List.{length-append, length-set}
use Rattle.rv_exec.specs.Registers.{Registers}
use Rattle.env_calls.specs.Effect.{Effect, Runs, Yields, Spawns, Finishes, Exits, Traps}
use Rattle.env_calls.specs.Step.{effect}
use Rattle.flat_machine.specs.Process.{Process, hart_registers, may_step, stepped, after, flat_step, flat_run}
use Rattle.paged_memory.specs.Paged.{PagedValue}
use Rattle.paged_memory.specs.access.HartMemory.{KeepsAccess}
use Rattle.space_core.specs.declared.progress.SliceStop.{SliceStop}
use Rattle.space_core.specs.declared.progress.SliceStop.TheVariants.{Budget, Absent, Yield, HartDone, Ended, NoHart, ScheduleFull, NoMemory}
use Rattle.space_core.specs.Slicing.{OthersStay, SettlesCaches, LeavesCaches}
use Rattle.paged_memory.specs.access.Using.{HoldsNone, SameCache}
use Rattle.paged_memory.specs.moves.Moving.{SameEntries}
use Rattle.paged_memory.proofs.access_laws.UsingLaws.{goes_same, same_held}

-- ---- no hart that was started goes

harts_after : (hart : ℕ) (p : Process) (r : Registers) (e : Effect) → length p.harts ≤ length (after hart p r e).harts
harts_after hart p r (Runs regs env memory) = omega (arith, length-set p.harts hart regs)
harts_after hart p r (Yields regs env memory) = omega (arith, length-set p.harts hart regs)
harts_after hart p r (Spawns first regs env memory) = omega (arith, length-set p.harts hart regs, length-append (slice_set p.harts hart regs) (first ∷ []))
harts_after hart p r (Finishes regs env memory) = omega (arith, length-set p.harts hart regs)
harts_after hart p r (Exits status regs env memory) = omega (arith, length-set p.harts hart regs)
harts_after hart p r (Traps cause value) = omega arith

harts_stepped : (hart : ℕ) (p q : Process) (b : Bool) (o : Option Registers) → cond b (option_map (stepped hart p) o) None ≡ Some q → length p.harts ≤ length q.harts
harts_stepped hart p q false o step = absurd (none-some _ step)
harts_stepped hart p q true None step = absurd (none-some _ step)
harts_stepped hart p q true (Some r) step =
    subst (λ (x : Process). length p.harts ≤ length x.harts) (ap (λ o. unwrap_or o q) step) (harts_after hart p r (effect hart r p.environment p.memory))

harts_step : (hart : ℕ) (p q : Process) → flat_step hart p ≡ Some q → length p.harts ≤ length q.harts
unfolding flat_step
harts_step hart p q step = harts_stepped hart p q (may_step hart p) (hart_registers hart p) step

harts_through : (harts : List ℕ) (hart : ℕ) (p q : Process) → ((next : Process) → flat_run harts next ≡ Some q → length next.harts ≤ length q.harts)
    → (o : Option Process) → flat_step hart p ≡ o → option_and_then (flat_run harts) o ≡ Some q → length p.harts ≤ length q.harts
harts_through harts hart p q rest None e f = absurd (none-some _ f)
harts_through harts hart p q rest (Some next) e f = let first = harts_step hart p next e in let more = rest next f in omega arith

pub harts_run : (harts : List ℕ) (p q : Process) → flat_run harts p ≡ Some q → length p.harts ≤ length q.harts
unfolding flat_run
harts_run [] p q ran = subst (λ (x : Process). length p.harts ≤ length x.harts) (ap (λ o. unwrap_or o q) ran) (omega arith)
harts_run (hart ∷ harts) p q ran = harts_through harts hart p q (λ next f. harts_run harts next q f) (flat_step hart p) refl ran

-- ---- caches

module _ {S : Type 0} where
  settled_others : (hart : ℕ) (old between new : PagedValue S) → KeepsAccess hart old between → OthersStay hart between new × HoldsNone hart new → OthersStay hart old new × HoldsNone hart new
  settled_others hart old between new kept (others, own) = (λ h other. others h other ∙ kept.others h other, own)

  pub settled : (stop : SliceStop) (hart : ℕ) (old between new : PagedValue S) → KeepsAccess hart old between → SameEntries between new → SettlesCaches stop hart between new → LeavesCaches stop hart old new
  settled Budget hart old between new kept entries same = (
    λ h other. same h ∙ kept.others h other,
    record {
      held = λ page is. kept.held page (sym (same_held hart page between new (same hart)) ∙ is);
      goes = goes_same hart old between new kept.goes entries (same hart);
    },
  )
  settled Ended hart old between new kept entries emptied = emptied
  settled (Absent page) hart old between new kept entries s = settled_others hart old between new kept s
  settled Yield hart old between new kept entries s = settled_others hart old between new kept s
  settled HartDone hart old between new kept entries s = settled_others hart old between new kept s
  settled NoHart hart old between new kept entries s = settled_others hart old between new kept s
  settled ScheduleFull hart old between new kept entries s = settled_others hart old between new kept s
  settled NoMemory hart old between new kept entries s = settled_others hart old between new kept s

  -- the same caches were there before more harts had one
  more_others : (hart : ℕ) (old between new : PagedValue S) → ((h : ℕ) → SameCache h old between) → OthersStay hart between new × HoldsNone hart new → OthersStay hart old new × HoldsNone hart new
  more_others hart old between new same (others, own) = (λ h other. others h other ∙ same h, own)

  pub settled_after : (stop : SliceStop) (hart : ℕ) (old between new : PagedValue S) → ((h : ℕ) → SameCache h old between) → SettlesCaches stop hart between new → SettlesCaches stop hart old new
  settled_after Budget hart old between new same stays = λ h. stays h ∙ same h
  settled_after Ended hart old between new same emptied = emptied
  settled_after (Absent page) hart old between new same s = more_others hart old between new same s
  settled_after Yield hart old between new same s = more_others hart old between new same s
  settled_after HartDone hart old between new same s = more_others hart old between new same s
  settled_after NoHart hart old between new same s = more_others hart old between new same s
  settled_after ScheduleFull hart old between new same s = more_others hart old between new same s
  settled_after NoMemory hart old between new same s = more_others hart old between new same s
