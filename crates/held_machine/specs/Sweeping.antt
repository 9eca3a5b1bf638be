-- A question of the list under both locks.
use Rattle.std.specs.Prelude.{◌≡◌, Option, Some, None}
use Rattle.clock_policy.specs.declared.key.Key.{Key}
use Rattle.clock_policy.specs.ClockPro.{question_of}
use Rattle.machine_sides.specs.Agreeing.{AgreeStill, AsksOf}
use Rattle.machine_sides.specs.Sweeping.{Sweeps}
use Rattle.machine_sides.specs.declared.sweeping.Swept.{Swept}
use Rattle.held_machine.specs.Answers.{IsOther}
use Rattle.held_machine.specs.DeskValue.{DeskValue}
use Rattle.held_machine.specs.HeldValue.{HeldValue}

module _ {S : Type 0} (desk desk' : DeskValue) (held held' : HeldValue S) where
  -- the list asks for a page of another process
  pub record AsksOther : Type 0 where
    pub key : Key
    pub question : question_of desk.pager.pager.list ≡ Some key
    pub other : IsOther key.process desk desk' held held'

  -- the page that the list asks for, if it asks for one, is of this process, and the question was put and answered
  pub record DoesSweep (swept : Swept) : Type 0 where
    pub own : AsksOf desk.pager.pager held.side
    pub sweeps : Sweeps desk.pager desk'.pager held.side held'.side swept
    pub desk_is : desk' ≡ record desk { pager = desk'.pager }
    pub held_is : held' ≡ record held { side = held'.side }
    pub agree : AgreeStill None desk.pager.pager desk'.pager.pager held.side held'.side

  abbrev pub SweepsHeld : Option Swept → Type 0
  SweepsHeld None = AsksOther
  SweepsHeld (Some swept) = DoesSweep swept
