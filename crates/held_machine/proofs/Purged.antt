-- Processes that give their pages back have come to what they had come to.
use Rattle.std.proofs.Common.{◌≡◌, ℕ, zero, suc, ◌+◌, arith, subst, List, [], ◌∷◌, Option, Some, None, Result, Ok, Err, map, ap, sym, refl, ◌∙◌, slice_get, slice_set}
use Rattle.swap_slots.specs.PoolValue.{PoolValue}
use Rattle.machine_sides.specs.Reporting.{come_to}
use Rattle.machine_sides.specs.declared.purging.PurgeRefusal.{PurgeRefusal}
use Rattle.held_machine.specs.DeskValue.{DeskValue}
use Rattle.held_machine.specs.HeldValue.{HeldValue}
use Rattle.held_machine.specs.Purging.{PurgesEach, PurgesHeld, PurgesOne, StandingValue}

map_set : {A B : Type 0} (f : A → B) (all : List A) (k : ℕ) (before after : A) → slice_get all k ≡ Some before → f after ≡ f before → map f (slice_set all k after) ≡ map f all
map_set f [] k before after found same = refl
map_set f (x ∷ all) zero before after found same =
    let here : x ≡ before = cc in
    ap (λ y. y ∷ map f all) (same ∙ ap f (sym here))
map_set f (x ∷ all) (suc k) before after found same = ap (λ l. f x ∷ l) (map_set f all k before after found same)

module _ {S : Type 0} where
  held_come_to : (number : ℕ) (desk desk' : DeskValue) (before after : HeldValue S) (slots slots' : PoolValue S) (result : Option (Result (Unit {0}) PurgeRefusal))
      → PurgesHeld number desk desk' before after slots slots' result → come_to after.side ≡ come_to before.side
  held_come_to number desk desk' before after slots slots' None purges = ap (λ (h : HeldValue S). come_to h.side) purges.none.held_stays
  held_come_to number desk desk' before after slots slots' (Some (Ok done)) purges = ap come_to purges.did.is
  held_come_to number desk desk' before after slots slots' (Some (Err reason)) purges = ap come_to purges.did.process_stays

  -- one after another
  pub each_come_to : (count : ℕ) (old new : StandingValue S) → PurgesEach count old new → map (λ (h : HeldValue S). come_to h.side) new.held ≡ map (λ (h : HeldValue S). come_to h.side) old.held
  unfolding PurgesEach
  each_come_to zero old new purges = ap (λ (s : StandingValue S). map (λ (h : HeldValue S). come_to h.side) s.held) purges
  each_come_to (suc number) old new (between, (so_far, one)) =
      ap (map (λ (h : HeldValue S). come_to h.side)) one.held_is
      ∙ map_set (λ (h : HeldValue S). come_to h.side) between.held number one.before one.after one.found
      (held_come_to number between.desk new.desk one.before one.after between.slots new.slots one.result one.purges)
      ∙ each_come_to number old between so_far

  -- one more, after those so far
  pub purges_more : (number : ℕ) (old between new : StandingValue S) → PurgesEach number old between → PurgesOne number between new → PurgesEach (number + 1) old new
  unfolding PurgesEach
  purges_more number old between new so_far one =
      let next : suc number ≡ number + 1 = omega arith in
      subst (λ n. PurgesEach n old new) next (between, (so_far, one))

  pub purges_none : (all : StandingValue S) → PurgesEach 0 all all
  unfolding PurgesEach
  purges_none all = refl
