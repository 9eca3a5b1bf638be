-- What an audit of what the locks protect looks for.
use Rattle.std.specs.Prelude.{◌≡◌, true, List, map}
use Rattle.machine_sides.specs.Auditing as sides
use Rattle.machine_sides.specs.Auditing.{AreSound}
use Rattle.paged_memory.specs.declared.counting.HeldPages.{HeldPages}
use Rattle.held_machine.specs.DeskValue.{DeskValue}
use Rattle.held_machine.specs.HeldValue.{HeldValue}
use Rattle.space_core.specs.StandsFor.{SpaceValue}

-- so many pages are all that the pager knows of, and only what events of the machine give has happened
pub record HoldsAll (desk : DeskValue) (found : HeldPages) : Type 0 where
  pub sound : desk.sound ≡ true
  pub counted : sides.HoldsAll desk.pager.pager found

module _ {S : Type 0} where
  -- a process without the other values that its lock protects
  abbrev pub space_in : HeldValue S → SpaceValue S
  space_in held = held.side

  -- Processes that are numbered from 0 are all listed, and the list has no resident entry besides; the frames that are free or in their
  -- pages are as many as the machine was made with; and only what events of the machine give has happened.
  pub record IsSound (desk : DeskValue) (processes : List (HeldValue S)) : Type 0 where
    pub sound : desk.sound ≡ true
    pub spaces : AreSound desk.pager.pager (map space_in processes)

  -- what that comes to, page by page: the list has a page of one of these processes as a resident one exactly where it is resident
  abbrev pub AgreeEverywhere : DeskValue → List (HeldValue S) → Type 0
  AgreeEverywhere desk processes = sides.AgreeEverywhere desk.pager.pager (map space_in processes)
