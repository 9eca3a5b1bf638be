-- A look at a leaving page under both locks and the slots'.
use Rattle.std.specs.Prelude.{◌≡◌, ◌≢◌, ◌⊎◌, true, false, Option, Some, None}
use Rattle.clock_policy.specs.declared.key.Key.{Key}
use Rattle.machine_sides.specs.Collecting.{is_leaving_at, Looks}
use Rattle.machine_sides.specs.declared.collecting.Looked.{Looked}
use Rattle.pager_core.specs.Pager.{takes_back}
use Rattle.swap_slots.specs.PoolValue.{PoolValue}
use Rattle.held_machine.specs.Answers.{CallsNone, Answers}
use Rattle.held_machine.specs.DeskValue.{DeskValue}
use Rattle.held_machine.specs.HeldValue.{HeldValue, tried_if}
use Rattle.held_machine.specs.Tries.{look_failed}

module _ {S : Type 0} (key : Key) (desk desk' : DeskValue) (held held' : HeldValue S) (slots slots' : PoolValue S) where
  -- the page is leaving, and the list would not take it back
  abbrev pub CannotReturn : Type 0
  CannotReturn = (is_leaving_at held.side key.vpn ≡ true) × (takes_back key desk.pager.pager.list ≡ false)

  -- the process is another one, or the page could not return: no call was made
  pub record CollectsNone : Type 0 where
    pub none : CallsNone key.process desk desk' held held' ((held.side.memory.process ≢ key.process) ⊎ CannotReturn)
    pub slots_stay : slots' ≡ slots

  -- what was done, in the words of the look itself; a page that found no slot counts as tried for
  abbrev pub CollectsHeld : Option (Looked S) → Type 0
  CollectsHeld None = CollectsNone
  CollectsHeld (Some looked) =
      Answers key.process desk desk' held held' (tried_if (look_failed looked) held.tries) desk.sound
      (Looks key.vpn desk.pager desk'.pager held.side held'.side slots slots' looked)
