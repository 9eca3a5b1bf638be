-- Steps that are not taken, and what a refused one says.
use Rattle.std.proofs.Common.{◌≡◌, ℕ, ◌&&◌, Bool, true, false, Option, Some, None, IsSome, Result, Ok, Err, OnErr, is_none, is_some, option_map, unwrap_or, cond, refl, sym, ap, true≢false, ◌∙◌}
use Rattle.flat_machine.specs.declared.end.End.{End}
use Rattle.flat_machine.specs.Process.{Process, hart_registers, is_live, may_step, stepped, flat_step}
use Rattle.flat_machine.proofs.StepLaws.{not_ended}
use Rattle.guest_strings.specs.References.{after_step}

stays : (hart : ℕ) (process left : Process) → may_step hart process ≡ false → left ≡ process → left ≡ after_step hart process
unfolding flat_step
stays hart process left never same =
    same ∙ sym (ap (λ b. unwrap_or (cond b (option_map (stepped hart process) (hart_registers hart process)) None) process) never)

over : (ending : Option End) (live : Bool) → IsSome ending → (is_none ending && live) ≡ false
over None live e = absurd (true≢false (sym e))
over (Some end) live e = refl

not_live : (goes_on : Bool) → (goes_on && false) ≡ false
not_live true = refl
not_live false = refl

-- where the process has ended
pub stays_ended : (hart : ℕ) (process left : Process) → IsSome process.ending → left ≡ process → left ≡ after_step hart process
stays_ended hart process left ended same = stays hart process left (over process.ending (is_live hart process) ended) same

-- where the hart is not live
pub stays_unlive : (hart : ℕ) (process left : Process) → is_live hart process ≡ false → left ≡ process → left ≡ after_step hart process
stays_unlive hart process left unlive same =
    stays hart process left (ap (λ b. is_none process.ending && b) unlive ∙ not_live (is_none process.ending)) same

nothing : (process : Process) (may : Bool) → unwrap_or (cond may None None) process ≡ process
nothing process true = refl
nothing process false = refl

-- where the hart was never started
pub stays_unstarted : (hart : ℕ) (process left : Process) → is_some (hart_registers hart process) ≡ false → left ≡ process → left ≡ after_step hart process
unfolding flat_step
stays_unstarted hart process left unstarted same =
    same ∙ sym (ap (λ o. unwrap_or (cond (may_step hart process) (option_map (stepped hart process) o) None) process) (not_ended (hart_registers hart process) unstarted)
    ∙ nothing process (may_step hart process))

pub err_then : {A E P Q : Type 0} (r : Result A E) → (P → Q) → OnErr r P → OnErr r Q
err_then (Ok x) f e = e
err_then (Err x) f e = f e
