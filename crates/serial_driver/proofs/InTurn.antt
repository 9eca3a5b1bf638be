-- Events that come in turn, one after another.
use Rattle.std.proofs.Common.{◌≡◌, ℕ, zero, suc, ◌-◌, ◌≤◌, ◌==◌, max, Bool, true, false, List, [], ◌∷◌, ◌++◌, Option, Some, None, replicate, refl, arith, subst}
use Rattle.std.specs.Prelude.{if◌then◌else◌}
use Rattle.machine_core.specs.Applying.{Applies, Runs}
use Rattle.machine_core.specs.Machine.{CoreValue}
use Rattle.machine_core.specs.ManySteps.{steps_of, replies_of}
use Rattle.machine_core.specs.declared.event.Event.{Event}
use Rattle.machine_core.specs.declared.event.Event.TheVariants.{Step}
use Rattle.machine_core.specs.declared.event.Reply.{Reply}
use Rattle.machine_core.specs.declared.event.Reply.TheVariants.{Ran}
use Rattle.serial_driver.specs.Limit.{ComeInTurn}
use Rattle.serial_driver.specs.Owing.{Duty, duty_after, duty_with}
use Rattle.serial_driver.specs.Turning.{IsInTurn, MayStep, Rests, Runs as running, ran_turn}
use Rattle.serial_driver.proofs.Owed.{steps_many}

most_left : (most left : ℕ) → most ≤ max left 1 → 2 ≤ most → most ≤ left
most_left most left few two = grind (arith, few, two)

next_few : (count left : ℕ) → suc (suc count) ≤ max left 1 → suc count ≤ max (left - 1) 1
next_few count left few = let most = most_left (suc (suc count)) left few (omega arith) in omega (arith, most)

module _ {S : Type 0} (honest : Type 0) where
  -- with more than one instruction left of its slice a hart runs on
  runs_on : (core : CoreValue S) (process hart slice left wanted : ℕ) → 1 ≤ left → IsInTurn honest core (ran_turn process hart slice left wanted) (Step process hart)
  runs_on core process hart slice left wanted some = by_test (left == 0) refl
    where
      by_test : (b : Bool) → (left == 0) ≡ b → MayStep honest core (if b then Rests else running) (ran_turn process hart slice left wanted) process hart
      by_test true is = absurd (grind (arith, is, some))
      by_test false is = (refl, refl)

  next_runs : (core : CoreValue S) (process hart slice count left wanted : ℕ) → suc (suc count) ≤ max left 1 → IsInTurn honest core (ran_turn process hart slice (left - 1) wanted) (Step process hart)
  next_runs core process hart slice count left wanted few = let most = most_left (suc (suc count)) left few (omega arith) in runs_on core process hart slice (left - 1) wanted (omega (arith, most))

module _ {S : Type 0} (held : S → List ℕ) (honest : Type 0) (failures : S → ℕ) where
  -- such events are a run
  pub in_turn_runs : (duty : Duty) (events : List Event) (replies : List Reply) (old new : CoreValue S) → ComeInTurn held honest failures duty events replies old new → Runs held honest failures events replies old new
  unfolding ComeInTurn Runs
  in_turn_runs duty [] [] old new comes = comes
  in_turn_runs duty [] (r ∷ rs) old new comes = absurd comes
  in_turn_runs duty (e ∷ es) [] old new comes = absurd comes
  in_turn_runs duty (e ∷ es) (r ∷ rs) old new comes = (comes.0, (comes.1.0, in_turn_runs (duty_with e r duty) es rs comes.0 new comes.1.1.1))

  pub in_turn_none : (duty : Duty) (core : CoreValue S) → ComeInTurn held honest failures duty [] [] core core
  unfolding ComeInTurn
  in_turn_none duty core = refl

  pub in_turn_one : (duty : Duty) (event : Event) (reply : Reply) (old new : CoreValue S) → Applies held honest failures event old new reply → IsInTurn honest old duty.turn event
      → ComeInTurn held honest failures duty (event ∷ []) (reply ∷ []) old new
  unfolding ComeInTurn
  in_turn_one duty event reply old new applies turn = (new, (applies, (turn, refl)))

  -- some, and then others
  pub in_turn_on : (duty : Duty) (first second : List Event) (replies replies' : List Reply) (old between new : CoreValue S) → ComeInTurn held honest failures duty first replies old between
      → ComeInTurn held honest failures (duty_after first replies duty) second replies' between new → ComeInTurn held honest failures duty (first ++ second) (replies ++ replies') old new
  unfolding ComeInTurn duty_after
  in_turn_on duty [] second [] replies' old between new a b = subst (λ c. ComeInTurn held honest failures duty second replies' c new) a b
  in_turn_on duty [] second (r ∷ rs) replies' old between new a b = absurd a
  in_turn_on duty (e ∷ es) second [] replies' old between new a b = absurd a
  in_turn_on duty (e ∷ es) second (r ∷ rs) replies' old between new a b =
      (a.0, (a.1.0, (a.1.1.0, in_turn_on (duty_with e r duty) es second rs replies' a.0 between new a.1.1.1 b)))

  -- steps that go on come in turn as long as the slice has instructions left
  ran_in_turn : (duty : Duty) (process hart count : ℕ) (old new : CoreValue S) → Runs held honest failures (replicate count (Step process hart)) (replicate count Ran) old new
      → IsInTurn honest old duty.turn (Step process hart) → count ≤ max duty.turn.left 1
      → ComeInTurn held honest failures duty (replicate count (Step process hart)) (replicate count Ran) old new
  unfolding ComeInTurn Runs
  ran_in_turn duty process hart zero old new runs turn few = runs
  ran_in_turn duty process hart (suc zero) old new runs turn few = (runs.0, (runs.1.0, (turn, runs.1.1)))
  ran_in_turn duty process hart (suc (suc count)) old new runs turn few = (
    runs.0,
    (
      runs.1.0,
      (
        turn,
        ran_in_turn (duty_with (Step process hart) Ran duty) process hart (suc count) runs.0 new runs.1.1
            (next_runs honest runs.0 process hart duty.turn.slice count duty.turn.left duty.turn.wanted few) (next_few count duty.turn.left few),
      ),
    ),
  )

  -- and so does a further one
  told_in_turn : (duty : Duty) (process hart count : ℕ) (reply : Reply) (old new : CoreValue S) → Runs held honest failures (replicate count (Step process hart) ++ Step process hart ∷ []) (replicate count Ran ++ reply ∷ []) old new
      → IsInTurn honest old duty.turn (Step process hart) → suc count ≤ max duty.turn.left 1
      → ComeInTurn held honest failures duty (replicate count (Step process hart) ++ Step process hart ∷ []) (replicate count Ran ++ reply ∷ []) old new
  unfolding ComeInTurn Runs
  told_in_turn duty process hart zero reply old new runs turn few = (runs.0, (runs.1.0, (turn, runs.1.1)))
  told_in_turn duty process hart (suc count) reply old new runs turn few = (
    runs.0,
    (
      runs.1.0,
      (
        turn,
        told_in_turn (duty_with (Step process hart) Ran duty) process hart count reply runs.0 new runs.1.1
            (next_runs honest runs.0 process hart duty.turn.slice count duty.turn.left duty.turn.wanted few) (next_few count duty.turn.left few),
      ),
    ),
  )

  pub steps_in_turn : (duty : Duty) (process hart ran : ℕ) (last : Option Reply) (old new : CoreValue S) → Runs held honest failures (steps_of process hart ran last) (replies_of ran last) old new
      → IsInTurn honest old duty.turn (Step process hart) → steps_many last ran ≤ max duty.turn.left 1
      → ComeInTurn held honest failures duty (steps_of process hart ran last) (replies_of ran last) old new
  steps_in_turn duty process hart ran None old new runs turn few = ran_in_turn duty process hart ran old new runs turn few
  steps_in_turn duty process hart ran (Some reply) old new runs turn few = told_in_turn duty process hart ran reply old new runs turn (omega (arith, few))
