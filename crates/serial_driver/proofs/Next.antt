-- What comes next may come.
use Rattle.std.proofs.Common.{◌≡◌, ℕ, ◌<◌, false, Option, None, refl, sym, ap, ◌∙◌, arith, subst}
use Rattle.flat_machine.specs.declared.end.KillCause.TheVariants as cause
use Rattle.machine_core.specs.declared.event.Event as machine
use Rattle.machine_core.specs.declared.event.Event.TheVariants.{Notice, Step}
use Rattle.machine_core.specs.Machine.{CoreValue}
use Rattle.serial_driver.specs.Nexts.{AreSteps, IsNext, IsOrdinary}
use Rattle.serial_driver.specs.Rounds.{IsNextHart}
use Rattle.serial_driver.specs.Owing.{Duty, Pays, is_only_owed, next_owed}
use Rattle.serial_driver.specs.Turning.{IsInTurn, MayNotice, MayStep}
use Rattle.serial_driver.specs.TurnsDuty.{phase_of, turn_of}
use Rattle.serial_driver.specs.declared.turns.Next.{Next}
use Rattle.serial_driver.specs.declared.turns.Next.TheVariants.{Event, Steps}
use Rattle.serial_driver.specs.declared.turns.Stage.TheVariants.{Choose, Run, Rest}
use Rattle.serial_driver.specs.declared.turns.Turns.{Turns}

free_pays : (owed : Option machine.Event) (event : machine.Event) → owed ≡ None → is_only_owed event ≡ false → Pays owed event
free_pays owed event is none = subst (λ o. Pays o event) (sym is) none

pub ordinary_next : {S : Type 0} (honest : Type 0) (core : CoreValue S) (allowed : ℕ) (event : machine.Event) → 0 < allowed → (spent : Option ℕ) (duty : Duty) → IsOrdinary honest core duty.turn event → next_owed duty.owed spent ≡ None
    → IsNext honest core allowed spent duty (Event event)
ordinary_next honest core allowed event some spent duty ordinary free =
    (omega arith, (omega (arith, some), (ordinary.0, free_pays (next_owed duty.owed spent) event free ordinary.1, ordinary.2)))

-- steps of a hart that may run
pub steps_next : {S : Type 0} (honest : Type 0) (core : CoreValue S) (process hart allowed : ℕ) (next : Next) (spent : Option ℕ) (duty : Duty) → AreSteps process hart allowed duty.turn.left next → next_owed duty.owed spent ≡ None
    → IsInTurn honest core duty.turn (Step process hart) → IsNext honest core allowed spent duty next
steps_next honest core process hart allowed (Steps process' hart' most) spent duty are free turn = (
  are.1.1.0,
  (
    are.1.1.1.0,
    (
      free_pays (next_owed duty.owed spent) (Step process' hart') free refl,
      subst (λ h. IsInTurn honest core duty.turn (Step process' h)) (sym are.1.0) (subst (λ p. IsInTurn honest core duty.turn (Step p hart)) (sym are.0) turn),
      are.1.1.1.1,
    ),
  ),
)
steps_next honest core process hart allowed (Event event) spent duty are free turn = absurd are

module _ {S : Type 0} (honest : Type 0) (core : CoreValue S) where
  -- the hart that has the slice may run, the next one where a turn begins, and one whose turn is over may drop its translations
  pub may_run : (turns : Turns) → turns.stage ≡ Run → IsInTurn honest core (turn_of turns) (Step turns.running.process turns.running.hart)
  may_run turns is = subst (λ p. MayStep honest core p (turn_of turns) turns.running.process turns.running.hart) (sym (ap phase_of is)) (refl, refl)

  pub may_begin : (turns : Turns) (last : Option ℕ) (process hart : ℕ) → turns.stage ≡ Choose last → IsNextHart honest core turns.running.process last process hart → IsInTurn honest core (turn_of turns) (Step process hart)
  may_begin turns last process hart is next = subst (λ p. MayStep honest core p (turn_of turns) process hart) (sym (ap phase_of is)) next

  pub may_rest : (turns : Turns) (event : machine.Event) → turns.stage ≡ Rest → event ≡ Notice turns.running.process turns.running.hart → IsOrdinary honest core (turn_of turns) event
  may_rest turns event is same =
      subst (IsOrdinary honest core (turn_of turns)) (sym same)
      (refl, refl, subst (λ p. MayNotice core p (turn_of turns) turns.running.process turns.running.hart) (sym (ap phase_of is)) (refl, refl))
