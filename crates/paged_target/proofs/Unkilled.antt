-- No instruction of a process is ended by the machine.
use Rattle.std.proofs.Common.{◌≡◌, ℕ, Bool, true, false, cond, List, [], ◌∷◌, Option, Some, None, option_map, option_and_then, unwrap_or, refl, ap, subst}
use Rattle.std.proofs.lemmas.Option.{none-some}
use Rattle.env_calls.specs.Effect.{Effect, Runs, Yields, Spawns, Finishes, Exits, Traps}
use Rattle.env_calls.specs.Step.{effect}
use Rattle.flat_machine.specs.Process.{Process, after, flat_run, flat_step, hart_registers, may_step, stepped}
use Rattle.rv_exec.specs.Registers.{Registers}
use Rattle.space_core.specs.StandsFor.{own_ending}

-- if it has ended, then by its own instructions
abbrev IsOwn : Process → Type 0
IsOwn process = own_ending process.ending ≡ process.ending

own_after : (hart : ℕ) (process : Process) (r : Registers) (e : Effect) → IsOwn process → IsOwn (after hart process r e)
own_after hart process r (Runs registers environment memory) own = own
own_after hart process r (Yields registers environment memory) own = own
own_after hart process r (Spawns first registers environment memory) own = own
own_after hart process r (Finishes registers environment memory) own = own
own_after hart process r (Exits status registers environment memory) own = refl
own_after hart process r (Traps cause value) own = refl

own_stepped : (hart : ℕ) (p q : Process) (may : Bool) (found : Option Registers) → cond may (option_map (stepped hart p) found) None ≡ Some q → IsOwn p → IsOwn q
own_stepped hart p q false found step own = absurd (none-some _ step)
own_stepped hart p q true None step own = absurd (none-some _ step)
own_stepped hart p q true (Some r) step own = subst (λ (x : Process). IsOwn x) (ap (λ o. unwrap_or o q) step) (own_after hart p r (effect hart r p.environment p.memory) own)

own_step : (hart : ℕ) (p q : Process) → flat_step hart p ≡ Some q → IsOwn p → IsOwn q
unfolding flat_step
own_step hart p q step own = own_stepped hart p q (may_step hart p) (hart_registers hart p) step own

own_through : (harts : List ℕ) (hart : ℕ) (p q : Process) → ((next : Process) → flat_run harts next ≡ Some q → IsOwn next → IsOwn q)
    → (o : Option Process) → flat_step hart p ≡ o → option_and_then (flat_run harts) o ≡ Some q → IsOwn p → IsOwn q
own_through harts hart p q rest None step ran own = absurd (none-some _ ran)
own_through harts hart p q rest (Some next) step ran own = rest next ran (own_step hart p next step own)

pub own_run : (harts : List ℕ) (p q : Process) → flat_run harts p ≡ Some q → own_ending p.ending ≡ p.ending → own_ending q.ending ≡ q.ending
unfolding flat_run
own_run [] p q ran own = subst (λ (x : Process). IsOwn x) (ap (λ o. unwrap_or o q) ran) own
own_run (hart ∷ harts) p q ran own = own_through harts hart p q (λ next left is. own_run harts next q left is) (flat_step hart p) refl ran own
