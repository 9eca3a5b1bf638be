-- An ended process gives its pages back under both locks and the slots'.
use Rattle.std.specs.Prelude.{◌≡◌, ◌≢◌, ◌⊎◌, ℕ, zero, suc, List, Option, Result, Some, None, slice_get, slice_set}
use Rattle.machine_sides.specs.Purging.{HasRoom, Purges}
use Rattle.machine_sides.specs.declared.purging.PurgeRefusal.{PurgeRefusal}
use Rattle.swap_slots.specs.PoolValue.{PoolValue}
use Rattle.held_machine.specs.Answers.{Answers, CallsNone}
use Rattle.held_machine.specs.DeskValue.{DeskValue}
use Rattle.held_machine.specs.HeldValue.{HeldValue}

module _ {S : Type 0} (number : ℕ) (desk desk' : DeskValue) (held held' : HeldValue S) (slots slots' : PoolValue S) where
  -- the process is another one, or the pool has no room for its slots: no call was made
  pub record PurgesNone : Type 0 where
    pub none : CallsNone number desk desk' held held' ((held.side.memory.process ≢ number) ⊎ (¬ HasRoom held.side slots))
    pub slots_stay : slots' ≡ slots

  -- what was done, in the words of the purge itself
  abbrev pub PurgesHeld : Option (Result (Unit {0}) PurgeRefusal) → Type 0
  PurgesHeld None = PurgesNone
  PurgesHeld (Some result) =
      Answers number desk desk' held held' held.tries desk.sound (Purges desk.pager desk'.pager held.side held'.side slots slots' result)

-- what all locks of a machine protect: the pager, its processes by rising number, and the free slots
pub record StandingValue (S : Type 0) : Type 0 where
  pub desk : DeskValue
  pub held : List (HeldValue S)
  pub slots : PoolValue S

module _ {S : Type 0} where
  -- the process of a number gives its pages back, as far as it can
  pub record PurgesOne (number : ℕ) (old new : StandingValue S) : Type 0 where
    pub before : HeldValue S
    pub after : HeldValue S
    pub result : Option (Result (Unit {0}) PurgeRefusal)
    pub found : slice_get old.held number ≡ Some before
    pub purges : PurgesHeld number old.desk new.desk before after old.slots new.slots result
    pub held_is : new.held ≡ slice_set old.held number after

  -- so many processes do, by rising number
  unfoldable pub PurgesEach : ℕ → StandingValue S → StandingValue S → Type 0
  PurgesEach zero old new = new ≡ old
  PurgesEach (suc number) old new = (between : StandingValue S) × (PurgesEach number old between × PurgesOne number between new)
