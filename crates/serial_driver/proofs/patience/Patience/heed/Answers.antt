-- An event counts as it is told to.
use Rattle.std.proofs.Common.{ℕ, Option, ap, ◌∙◌}
use Rattle.serial_driver.specs.Patience.{renewed, tried_again, tried_with, try_of}
use Rattle.serial_driver.proofs.Tried.{patient_same, spent_same}
use Rattle.serial_driver.proofs.patience.Patience.heed.Goals as goal

pub returns-clause-tries : goal.returns-clause-tries
returns-clause-tries c = λ most tried patient.
    patient_same most _ (λ number. tried_with number c.args.event c.args.reply (tried number)) c.try_again.new.self
    (λ number.
    ap (λ (p : Option ℕ). tried_again number p (renewed number c.run_of.result (tried number))) c.try_of.ensures
    ∙ ap (λ (p : Option ℕ). tried_again number (try_of c.args.event c.args.reply) (renewed number p (tried number))) c.run_of.ensures)
    (c.try_again.ensures.tries most _ (c.renew.ensures most tried patient))

pub returns-clause-spent : goal.returns-clause-spent
returns-clause-spent c = λ most tried patient.
    c.try_again.ensures.spent most _ (c.renew.ensures most tried patient)
    ∙ spent_same most tried c.args.event c.args.reply c.run_of.result c.try_of.result c.run_of.ensures c.try_of.ensures
