-- No step of the flat machine ends a process for a limit.
use Rattle.std.proofs.Common.{◌≡◌, ℕ, ◌&&◌, Bool, true, false, List, [], ◌∷◌, Option, Some, None, option_map, is_none, refl, ap, subst}
use Rattle.std.specs.Prelude.{option_and_then, if◌then◌else◌}
use Rattle.rv_exec.specs.Registers.{Registers}
use Rattle.env_calls.specs.Effect.{Effect, Runs, Yields, Spawns, Finishes, Exits, Traps}
use Rattle.env_calls.specs.Step.{effect}
use Rattle.flat_machine.specs.declared.end.End.{End}
use Rattle.flat_machine.specs.Process.{Process, after, hart_registers, is_live, stepped, may_step, flat_step, flat_run}
use Rattle.serial_driver.specs.StepsLimit.{is_limit_end}

some_is : {A : Type 0} (x y : A) → Some x ≡ Some y → x ≡ y
some_is x y e = cc

going : (end : Option End) (live : Bool) → (is_none end && live) ≡ true → end ≡ None
going None live may = refl
going (Some end) live may = cc

effect_unlimited : (hart : ℕ) (process : Process) (before : Registers) (effect : Effect) → process.ending ≡ None → is_limit_end (after hart process before effect).ending ≡ false
effect_unlimited hart process before (Runs registers environment memory) on = ap is_limit_end on
effect_unlimited hart process before (Yields registers environment memory) on = ap is_limit_end on
effect_unlimited hart process before (Spawns first registers environment memory) on = ap is_limit_end on
effect_unlimited hart process before (Finishes registers environment memory) on = ap is_limit_end on
effect_unlimited hart process before (Exits status registers environment memory) on = refl
effect_unlimited hart process before (Traps cause value) on = refl

left_unlimited : (hart : ℕ) (old new : Process) (may : Bool) (found : Option Registers) → may_step hart old ≡ may → (if may then option_map (stepped hart old) found else None) ≡ Some new
    → is_limit_end new.ending ≡ false
left_unlimited hart old new false found is e = cc
left_unlimited hart old new true None is e = cc
left_unlimited hart old new true (Some registers) is e =
    subst (λ (p : Process). is_limit_end p.ending ≡ false) (some_is (stepped hart old registers) new e)
    (effect_unlimited hart old registers (effect hart registers old.environment old.memory) (going old.ending (is_live hart old) is))

step_unlimited : (hart : ℕ) (old new : Process) → flat_step hart old ≡ Some new → is_limit_end new.ending ≡ false
unfolding flat_step
step_unlimited hart old new e = left_unlimited hart old new (may_step hart old) (hart_registers hart old) refl e

pub run_unlimited : (harts : List ℕ) (old new : Process) → is_limit_end old.ending ≡ false → flat_run harts old ≡ Some new → is_limit_end new.ending ≡ false
unfolding flat_run
run_unlimited [] old new on e = subst (λ (p : Process). is_limit_end p.ending ≡ false) (some_is old new e) on
run_unlimited (hart ∷ harts) old new on e =
    elim (flat_step hart old) as (λ o. flat_step hart old ≡ o → option_and_then (flat_run harts) o ≡ Some new → is_limit_end new.ending ≡ false) [
      | None ↦ λ step rest. cc
      | Some next ↦ λ step rest. run_unlimited harts next new (step_unlimited hart old next step) rest
    ] refl e
