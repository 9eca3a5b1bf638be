-- A run that goes on one event at a time is a run.
use Rattle.std.proofs.Common.{◌≡◌, ℕ, ◌+◌, ◌*◌, List, Option, None, refl, sym, ap, subst, arith}
use Rattle.machine_core.specs.Faithful.{IsFaithful}
use Rattle.machine_core.specs.Machine.{CoreValue}
use Rattle.serial_driver.specs.Endings.{HasEnded}
use Rattle.clock_policy.specs.declared.key.Key.{Key}
use Rattle.serial_driver.specs.Limit.{EndsByLimit, PlaysUpTo, PlaysWith, DoesSave, Closes}
use Rattle.serial_driver.specs.Owing.{no_duty, owed_save}
use Rattle.serial_driver.specs.Patience.{IsPatient, tries_per_frame}
use Rattle.serial_driver.specs.TurnsDuty.{duty_of, stage_owes}
use Rattle.serial_driver.specs.Watched.{HasPlayed, unsaved_of}
use Rattle.serial_driver.specs.declared.watched.SerialRun.{SerialRun}
use Rattle.serial_driver.proofs.Limited.{plays_none, plays_more}
use Rattle.serial_driver.proofs.OutOwed.{all_saved}
use Rattle.serial_driver.proofs.Stopped.{plays_to_end, plays_to_limit}

module _ {S : Type 0} (held : S → List ℕ) (honest : Type 0) (failures : S → ℕ) where
  -- a run begins
  pub played_none : (slice limit : ℕ) (core : CoreValue S) (run : SerialRun) → IsFaithful held honest core → run.left ≡ limit → duty_of run.turns ≡ no_duty slice
      → IsPatient (tries_per_frame * core.pager.pager.size) (λ _. 0) run.patience → run.patience.spent ≡ None → HasPlayed held honest failures slice limit core core run
  played_none slice limit core run faithful left free patient unspent = record {
    faithful = faithful;
    count = 0;
    sum = omega (arith, left);
    plays = plays_none held honest failures _ (λ _. 0) (no_duty slice) (duty_of run.turns) None core run.patience patient unspent free;
  }

  -- and goes on by an event
  pub played_more : (slice limit : ℕ) (first old new : CoreValue S) (before run : SerialRun) → HasPlayed held honest failures slice limit first old before → run.left + 1 ≡ before.left
      → ((most : ℕ) (tried : ℕ → ℕ) → IsPatient most tried before.patience
      → PlaysWith held honest failures most tried (duty_of before.turns) before.patience.spent 1 old new run.patience (duty_of run.turns))
      → HasPlayed held honest failures slice limit first new run
  played_more slice limit first old new before run played left plays = record {
    faithful = played.faithful;
    count = played.count + 1;
    sum = let sum = played.sum in omega (arith, sum, left);
    plays = plays_more held honest failures _ (λ _. 0) (no_duty slice) (duty_of before.turns) (duty_of run.turns) None played.count 1 (played.count + 1) first old new before.patience run.patience
        played.plays (plays _ _ played.plays.patient) refl;
  }

  -- until each process has ended
  pub played_out : (slice limit : ℕ) (first old new : CoreValue S) (run : SerialRun) → HasPlayed held honest failures slice limit first old run → new ≡ old
      → stage_owes run.turns.stage ≡ None → ((number : ℕ) → HasEnded new number) → PlaysUpTo held honest failures slice limit (unsaved_of run) first new
  played_out slice limit first old new run played stays settled ended =
      let now : HasPlayed held honest failures slice limit first new run = subst (λ c. HasPlayed held honest failures slice limit first c run) (sym stays) played in
      subst (λ (unsaved : Option Key). PlaysUpTo held honest failures slice limit unsaved first new) (sym (ap owed_save settled))
      (plays_to_end held honest failures slice limit now.count run.left (duty_of run.turns) first new run.patience now.sum now.plays settled ended)

  -- or until so many events have happened
  pub played_up : (slice limit : ℕ) (first old : CoreValue S) (run : SerialRun) → HasPlayed held honest failures slice limit first old run → run.left ≡ 0
      → PlaysUpTo held honest failures slice limit (unsaved_of run) first old
  played_up slice limit first old run played none =
      plays_to_limit held honest failures slice limit played.count run.left (duty_of run.turns) first old run.patience (unsaved_of run) played.sum (omega (arith, none)) played.plays refl

  -- and then it is closed
  pub played_closed : (slice limit : ℕ) (unsaved : Option Key) (first played saved new : CoreValue S) → IsFaithful held honest first → PlaysUpTo held honest failures slice limit unsaved first played
      → DoesSave held honest failures unsaved played saved → Closes held honest failures saved new → EndsByLimit held honest failures slice limit first new
  played_closed slice limit unsaved first played saved new faithful plays saves closes = record {
    unsaved = unsaved;
    played = played;
    plays = plays;
    saved = saved;
    saves = saves;
    settled = all_saved held honest failures slice limit unsaved first played saved plays saves faithful;
    closes = closes;
  }
