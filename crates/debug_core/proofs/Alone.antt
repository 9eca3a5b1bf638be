-- One hart that runs alone.
use Rattle.std.proofs.Common.{◌≡◌, ℕ, zero, suc, List, Option, Some, Ok, Err, IfOk, OnErr, Result, inl, inr, ap, ◌∙◌}
use Rattle.flat_machine.specs.Process.{Process, is_live}
use Rattle.debug_core.specs.Limits.{Limit}
use Rattle.debug_core.specs.Stops.{moment_after, Moment, Stops, StopsFor, WantsAfter}
use Rattle.debug_core.specs.declared.point.Point.{Point}
use Rattle.debug_core.specs.declared.point.Why.{Why}
use Rattle.debug_core.specs.declared.point.Why.TheVariants.{Ended, Watch, Gone, Break, Limit as Limited, Absent}

at_first : (count : ℕ) (first now : Moment) → count ≡ 0 → moment_after count first ≡ Some now → now ≡ first
unfolding moment_after
at_first zero first now none reached = cc
at_first (suc count) first now none reached = absurd (cc)

module _ {T : Type 0} (shown : T → Process) (limits : T → Limit → Type 0) where
  -- what is told of a stop leaves each hart as live as it was
  stopped_live : (full : Type 0) (why : Why) (points : List (Option Point)) (limit count : ℕ) (now : Moment) (process : Process) → StopsFor shown limits full why points limit count now process
      → (hart : ℕ) → is_live hart process ≡ is_live hart now.process
  stopped_live full Ended points limit count now process stops hart = elim stops [ inl ended ↦ ap (is_live hart) ended.0 | inr ran_out ↦ ap (is_live hart) ran_out.0 ]
  stopped_live full (Watch number) points limit count now process stops hart = ap (is_live hart) stops.0
  stopped_live full Gone points limit count now process stops hart = ap (is_live hart) stops.0
  stopped_live full (Break number) points limit count now process stops hart = ap (is_live hart) stops.0
  stopped_live full Limited points limit count now process stops hart = ap (is_live hart) stops.0
  stopped_live full Absent points limit count now process stops hart = ap (is_live hart) stops.0

  -- so with no step all are as before
  pub none_live : (target : T) (points : List (Option Point)) (limit count : ℕ) (first : Moment) (turn : ℕ) (process : Process) {E : Type 0} (answer : Result Why E)
      → IfOk answer (λ why. Stops shown limits target points limit why count first turn process) → OnErr answer (WantsAfter limits target points limit count first turn process) → count ≡ 0
      → (hart : ℕ) → is_live hart process ≡ is_live hart first.process
  none_live target points limit count first turn process (Ok why) stops wants none hart =
      stopped_live _ why points limit count stops.now process stops.stops hart ∙ ap (λ (m : Moment). is_live hart m.process) (at_first count first stops.now none stops.passes.reached)
  none_live target points limit count first turn process (Err error) stops wants none hart =
      ap (is_live hart) wants.process_is ∙ ap (λ (m : Moment). is_live hart m.process) (at_first count first wants.now none wants.passes.reached)
