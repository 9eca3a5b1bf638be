-- Steps of which one ran begin the count anew.
use Rattle.std.proofs.Common.{ℕ, Option, Some, None, sym, ap, ◌∙◌}
use Rattle.std.specs.Prelude.{if◌then◌else◌}
use Rattle.serial_driver.specs.Patience.{renewed}
use Rattle.serial_driver.proofs.Tried.{patient_same, steps_count}
use Rattle.serial_driver.proofs.patience.Patience.heed_steps.Goals as goal
use Rattle.serial_driver.proofs.patience.Patience.heed_steps.Goals.{then-any_ran, else-any_ran}

pub returns-clause-tries : goal.returns-clause-tries
returns-clause-tries c = λ most tried hart patient.
    let kept = c.renew.ensures most tried patient in
    patient_same most _ _ _
    (λ number.
    elim c.if-any_ran.branch [
      | then-any_ran w ↦ ap (λ (p : Option ℕ). renewed number p (tried number)) (w.ran-is ∙ ap (λ b. if b then Some c.args.process else None) (sym w.if-any_ran.true ∙ c.any_ran.ensures))
          ∙ steps_count number c.args.process hart c.args.steps.ran c.args.steps.last (tried number)
      | else-any_ran w ↦ ap (λ (p : Option ℕ). renewed number p (tried number)) (w.ran-is ∙ ap (λ b. if b then Some c.args.process else None) (sym w.if-any_ran.false ∙ c.any_ran.ensures))
          ∙ steps_count number c.args.process hart c.args.steps.ran c.args.steps.last (tried number)
    ])
    (record { bound = kept.bound; exact = kept.exact })
