-- A page that is to come in is admitted under both locks, and an admission that is not loaded is undone under both.
use Rattle.std.specs.Prelude.{◌≡◌, ◌++◌, [], ◌∷◌, false, Option, Some, None, Result, Ok, Err}
use Rattle.clock_policy.specs.declared.key.Key.{Key}
use Rattle.machine_sides.specs.Admitting.{AdmissionValue, Admits, DoesNotAdmit, is_resident_at, taken_back}
use Rattle.machine_sides.specs.Agreeing.{Agree, AgreeStill}
use Rattle.machine_sides.specs.declared.admission.NotAdmitted.{NotAdmitted}
use Rattle.held_machine.specs.Answers.{IsOther}
use Rattle.held_machine.specs.DeskValue.{DeskValue}
use Rattle.held_machine.specs.HeldValue.{HeldValue}

module _ {S : Type 0} (desk desk' : DeskValue) (held : HeldValue S) where
  module _ (key : Key) where
    -- the page of this key is listed and has its frame: it is the one page on which list and process do not agree
    pub record AdmitsHeld (admission : AdmissionValue) : Type 0 where
      pub process : held.side.memory.process ≡ key.process
      pub admits : Admits key desk.pager desk'.pager held.side admission
      pub desk_is : desk' ≡ record desk { pager = desk'.pager }
      pub agree : AgreeStill (Some key) desk.pager.pager desk'.pager.pager held.side held.side

    pub record RefusesHeld (reason : NotAdmitted) : Type 0 where
      pub process : held.side.memory.process ≡ key.process
      pub refuses : DoesNotAdmit key desk.pager desk'.pager held.side reason
      pub desk_stays : desk' ≡ desk

    abbrev pub AdmitsOrNot : Option (Result AdmissionValue NotAdmitted) → Type 0
    AdmitsOrNot None = IsOther key.process desk desk' held held
    AdmitsOrNot (Some (Ok admission)) = AdmitsHeld admission
    AdmitsOrNot (Some (Err reason)) = RefusesHeld reason

  module _ (admission : AdmissionValue) where
    -- its page is withdrawn from the list unless it is resident by now, and the frame is free
    pub record Undoes : Type 0 where
      pub process : held.side.memory.process ≡ admission.key.process
      pub list : desk'.pager.pager.list ≡ taken_back (is_resident_at held.side admission.key.vpn) admission.key desk.pager.pager.list
      pub pager_is : desk'.pager ≡ record desk.pager { pager = record desk.pager.pager { list = desk'.pager.pager.list; free = desk.pager.pager.free ++ admission.frame ∷ [] } }
      pub desk_is : desk' ≡ record desk { pager = desk'.pager }
      pub agree : AgreeStill None desk.pager.pager desk'.pager.pager held.side held.side
      pub settled : is_resident_at held.side admission.key.vpn ≡ false → Agree desk'.pager.pager held.side admission.key

    -- the process is another one: no call was made, and the admission comes back
    pub record UndoesNone (back : AdmissionValue) : Type 0 where
      pub other : IsOther admission.key.process desk desk' held held
      pub back_is : back ≡ admission

    abbrev pub UndoesHeld : Result (Unit {0}) AdmissionValue → Type 0
    UndoesHeld (Ok done) = Undoes
    UndoesHeld (Err back) = UndoesNone back
