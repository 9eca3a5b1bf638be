-- Steps of a space in a row are so many slices of one instruction.
use Rattle.std.proofs.Common.{◌≡◌, ◌≢◌, ℕ, zero, suc, List, Option, Some, None, refl, subst, arith}
use Rattle.std.specs.Prelude.{option_map}
use Rattle.machine_sides.specs.ProcessCalls.{Slices, SlicesOn, SlicesMany}
use Rattle.space_core.specs.StandsFor.{SpaceValue}
use Rattle.space_core.specs.StepByStep.{SlicesOne, SlicesEach, StepsOn, StepsEach}
use Rattle.space_core.specs.declared.progress.Slice.{Slice}
use Rattle.space_core.specs.declared.progress.SliceStop.{SliceStop}
use Rattle.space_core.specs.declared.progress.SliceStop.TheVariants.{Budget, Absent, Yield, HartDone, Ended, NoHart, ScheduleFull, NoMemory}

-- a slice of one is its instruction's
one_each : {S : Type 0} (held : S → List ℕ) (honest : Type 0) (hart ran : ℕ) (why : SliceStop) (old new : SpaceValue S) → SlicesOne held honest hart ran why old new → SlicesEach held honest hart 1 ran why old new
unfolding StepsOn
one_each held honest hart ran why old new one = by_stop why refl
  where
    one_stopped : why ≢ Budget → SlicesEach held honest hart 1 ran why old new
    one_stopped other = record {
      on = 0;
      last = Some (ran, why);
      each = record { between = old; on = refl; at_last = one };
      ends = (omega arith, omega arith, refl, other);
    }

    one_went : why ≡ Budget → SlicesEach held honest hart 1 ran why old new
    one_went same =
        let went = subst (λ s. SlicesOne held honest hart ran s old new) same one in
        let single : ran ≡ 1 = went.stops.0 in
        record {
          on = 1;
          last = None;
          each = record { between = new; on = (old, (refl, subst (λ k. SlicesOne held honest hart k Budget old new) single went)); at_last = refl };
          ends = (refl, single, same);
        }

    by_stop : (s : SliceStop) → why ≡ s → SlicesEach held honest hart 1 ran why old new
    by_stop Budget is = one_went is
    by_stop (Absent page) is = one_stopped (λ same. cc)
    by_stop Yield is = one_stopped (λ same. cc)
    by_stop HartDone is = one_stopped (λ same. cc)
    by_stop Ended is = one_stopped (λ same. cc)
    by_stop NoHart is = one_stopped (λ same. cc)
    by_stop ScheduleFull is = one_stopped (λ same. cc)
    by_stop NoMemory is = one_stopped (λ same. cc)

one_slice : {S : Type 0} (held : S → List ℕ) (honest : Type 0) (hart ran : ℕ) (why : SliceStop) (old new : SpaceValue S) → SlicesOne held honest hart ran why old new → Slices held honest hart 1 old new ran why
one_slice held honest hart ran why old new one = record {
  ran_is = one.ran_is;
  recorded = one.recorded;
  left = one.left;
  within = one.within;
  stops = one.stops;
  pages = one.pages;
  bound = one.bound;
  kept = one.kept;
  stands = one.stands;
  coheres = one.coheres;
  each = one_each held honest hart ran why old new one;
}

-- steps of a space in a row, and its slices
slices_on : {S : Type 0} (held : S → List ℕ) (honest : Type 0) (hart n : ℕ) (old new : SpaceValue S) → StepsOn held honest hart n old new → SlicesOn held honest hart n old new
unfolding StepsOn SlicesOn
slices_on held honest hart zero old new on = on
slices_on held honest hart (suc n) old new on = (on.0, (slices_on held honest hart n old on.0 on.1.0, one_slice held honest hart 1 Budget on.0 new on.1.1))

pub many_of_steps : {S : Type 0} (held : S → List ℕ) (honest : Type 0) (hart count : ℕ) (last : Option Slice) (old new : SpaceValue S)
    → StepsEach held honest hart count (option_map (λ slice. (slice.ran, slice.stop)) last) old new
    → SlicesMany held honest hart count (option_map (λ slice. slice.stop) last) old new
many_of_steps held honest hart count None old new each = record { between = each.between; on = slices_on held honest hart count old each.between each.on; ends = each.at_last }
many_of_steps held honest hart count (Some slice) old new each = record {
  between = each.between;
  on = slices_on held honest hart count old each.between each.on;
  ends = (slice.ran, one_slice held honest hart slice.ran slice.stop each.between new each.at_last);
}
