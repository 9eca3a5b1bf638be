-- How a run of so many events comes to its end: each process has ended, or the limit is reached.
use Rattle.std.proofs.Common.{◌≡◌, ℕ, ◌+◌, ◌*◌, ◌≤◌, List, Option, None, sym, ap, ◌∙◌, arith}
use Rattle.clock_policy.specs.declared.key.Key.{Key}
use Rattle.machine_core.specs.Machine.{CoreValue}
use Rattle.serial_driver.specs.Endings.{HasEnded}
use Rattle.serial_driver.specs.Limit.{PlaysWith, PlaysUpTo}
use Rattle.serial_driver.specs.Owing.{Duty, no_duty, owed_save}
use Rattle.serial_driver.specs.Patience.{tries_per_frame}
use Rattle.serial_driver.specs.declared.patience.Patience.{Patience}

module _ {S : Type 0} (held : S → List ℕ) (honest : Type 0) (failures : S → ℕ) where
  pub plays_to_end : (slice limit count left : ℕ) (duty : Duty) (old new : CoreValue S) (patience : Patience) → count + left ≡ limit
      → PlaysWith held honest failures (tries_per_frame * old.pager.pager.size) (λ _. 0) (no_duty slice) None count old new patience duty
      → duty.owed ≡ None → ((number : ℕ) → HasEnded new number) → PlaysUpTo held honest failures slice limit None old new
  plays_to_end slice limit count left duty old new patience sum played free ended = record {
    count = count;
    plays = played.plays;
    within = omega (arith, sum);
    short = λ less. ended;
    saves_late = λ some. absurd (cc);
    unsaved_is = sym (ap (λ (d : Duty). owed_save d.owed) (sym played.owes) ∙ ap owed_save free);
  }

  pub plays_to_limit : (slice limit count left : ℕ) (duty : Duty) (old new : CoreValue S) (patience : Patience) (unsaved : Option Key) → count + left ≡ limit → left ≤ 0
      → PlaysWith held honest failures (tries_per_frame * old.pager.pager.size) (λ _. 0) (no_duty slice) None count old new patience duty
      → unsaved ≡ owed_save duty.owed → PlaysUpTo held honest failures slice limit unsaved old new
  plays_to_limit slice limit count left duty old new patience unsaved sum none played is = record {
    count = count;
    plays = played.plays;
    within = omega (arith, sum);
    short = λ less. absurd (omega (arith, sum, none, less));
    saves_late = λ some. omega (arith, sum, none);
    unsaved_is = is ∙ ap (λ (d : Duty). owed_save d.owed) played.owes;
  }
