-- A call on the pager and a process that two locks hold.
use Rattle.std.specs.Prelude.{◌≡◌, ◌≢◌, ℕ, Bool, false, None}
use Rattle.machine_sides.specs.Agreeing.{AgreeStill}
use Rattle.held_machine.specs.DeskValue.{DeskValue}
use Rattle.held_machine.specs.HeldValue.{HeldValue}

module _ {S : Type 0} (number : ℕ) (desk desk' : DeskValue) (held held' : HeldValue S) where
  -- no call was made, for this reason, and the machine counts as unsound from then on
  pub record CallsNone (why : Type 0) : Type 0 where
    pub reason : why
    pub desk_is : desk' ≡ record desk { sound = false }
    pub held_stays : held' ≡ held

  -- the process is not the one of this number
  abbrev pub IsOther : Type 0
  IsOther = CallsNone (held.side.memory.process ≢ number)

  -- The process is the one of this number, and a call did this. It changed only the pager and the process, beside the tries; and each
  -- page of the process on which list and process agreed they agree on still.
  pub record Answers (tries : ℕ) (sound : Bool) (does : Type 0) : Type 0 where
    pub process : held.side.memory.process ≡ number
    pub did : does
    pub desk_is : desk' ≡ record desk { pager = desk'.pager; sound = sound }
    pub held_is : held' ≡ record held { side = held'.side; tries = tries }
    pub agree : AgreeStill None desk.pager.pager desk'.pager.pager held.side held'.side
