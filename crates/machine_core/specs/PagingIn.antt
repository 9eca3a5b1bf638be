-- A page is brought in: it is admitted and then mapped, or else the admission is taken back.
use Rattle.std.specs.Prelude.{◌≡◌, ◌≢◌, ◌⊎◌, ℕ, List, ◌++◌, [], ◌∷◌, is_some, slice_get, slice_set, Option, Some, None, if◌then◌else◌}
use Rattle.clock_policy.specs.declared.key.Key.{Key}
use Rattle.clock_policy.specs.ClockPro.{kind_of, withdrawn}
use Rattle.frame_pool.specs.FrameValue.{FrameValue}
use Rattle.paged_memory.specs.moves.Moving.{RefusesIn, SameEntries, SameFailures}
use Rattle.paged_memory.specs.declared.filling.PageInFault.{PageInFault}
use Rattle.paged_memory.specs.declared.filling.PageInFault.TheVariants as load
use Rattle.pager_core.specs.Pager.{none_free}
use Rattle.machine_sides.specs.declared.admission.NotAdmitted.{NotAdmitted}
use Rattle.machine_sides.specs.declared.admission.NotAdmitted.TheVariants as unadmitted
use Rattle.machine_core.specs.declared.error.EventRefusal.{EventRefusal}
use Rattle.machine_core.specs.declared.error.EventRefusal.TheVariants.{Ended, NotAbsent, NoFrame, NoMemory}
use Rattle.machine_core.specs.declared.event.Reply.{Reply}
use Rattle.machine_core.specs.declared.event.Reply.TheVariants.{Mapped, Device, Damaged, Refused}
use Rattle.machine_sides.specs.Admitting.{AdmissionValue, Admits, DoesNotAdmit, is_absent_at, is_resident_at, taken_back}
use Rattle.machine_sides.specs.Loading.{Loads, DoesNotLoad, KeepsRest}
use Rattle.machine_core.specs.Machine.{CoreValue}
use Rattle.machine_core.specs.MachineRun.{of_process}
use Rattle.machine_sides.specs.Sides.{PagerSideValue}
use Rattle.space_core.specs.StandsFor.{SpaceValue}

-- why a page does not come in that was not admitted; one that is listed is not absent
abbrev pub admit_reason : NotAdmitted → EventRefusal
admit_reason unadmitted.Ended = Ended
admit_reason unadmitted.NotAbsent = NotAbsent
admit_reason unadmitted.AlreadyResident = NotAbsent
admit_reason unadmitted.NoFrame = NoFrame
admit_reason unadmitted.NoMemory = NoMemory

-- what is replied for a page that was not loaded
abbrev pub fault_reply : PageInFault → Reply
fault_reply load.NotAbsent = Refused NotAbsent
fault_reply load.Device = Device
fault_reply load.Damaged = Damaged
fault_reply load.NoMemory = Refused NoMemory

module _ {S : Type 0} where
  pub record IsBarred (key : Key) (pager pager' : PagerSideValue) (process process' : SpaceValue S) (reply : Reply) : Type 0 where
    pub reason : NotAdmitted
    pub why : DoesNotAdmit key pager pager' process reason
    pub stays : process' ≡ process
    pub reply_is : reply ≡ Refused (admit_reason reason)

  module _ (held : S → List ℕ) (honest : Type 0) (failures : S → ℕ) (key : Key) (pager pager' : PagerSideValue) (process process' : SpaceValue S) (reply : Reply) where
    pub record ComesIn : Type 0 where
      pub admission : AdmissionValue
      pub admits : Admits key pager pager' process admission
      pub loads : Loads held honest admission process process'
      pub passed : SameFailures failures admission.key.vpn process.memory process'.memory
      pub reply_is : reply ≡ Mapped

    pub record IsTakenBack : Type 0 where
      pub admission : AdmissionValue
      pub back : AdmissionValue
      pub fault : PageInFault
      pub between : PagerSideValue
      pub admits : Admits key pager between process admission
      pub fails : DoesNotLoad held honest failures admission back fault process process'
      pub undone : pager' ≡ record between {
        pager = record between.pager {
          list = taken_back (is_resident_at process' back.key.vpn) back.key between.pager.list;
          free = between.pager.free ++ back.frame ∷ [];
        };
      }
      pub reply_is : reply ≡ fault_reply fault

    abbrev pub PagesIn : Type 0
    PagesIn = IsBarred key pager pager' process process' reply ⊎ (ComesIn ⊎ IsTakenBack)

    -- in the machine: an admitted page, which was absent, is not loaded, the frame comes free, the page is withdrawn, and is where it was
    pub record GoesBack : Type 0 where
      pub admission : AdmissionValue
      pub back : FrameValue
      pub fault : PageInFault
      pub between : PagerSideValue
      pub admits : Admits key pager between process admission
      pub why : RefusesIn held honest failures admission.frame key.vpn back fault process.memory process'.memory
      pub absent : fault ≢ load.NotAbsent
      pub unmapped : SameEntries process.memory process'.memory
      pub rest : KeepsRest held honest process process'
      pub withdraws : pager' ≡ record between {
        pager = record between.pager { list = (withdrawn key between.pager.list).0; free = between.pager.free ++ back ∷ [] };
      }
      pub reply_is : reply ≡ fault_reply fault

    -- the list has no entry of the page, there is not enough memory for one, and nothing has changed
    pub record IsNotListed : Type 0 where
      pub unlisted : kind_of key pager.pager.list.entries ≡ None
      pub pager_is : pager' ≡ pager
      pub process_is : process' ≡ process
      pub reply_is : reply ≡ Refused NoMemory

  -- why a page of a process that is there is not brought in, where these frames are free
  abbrev pub page_in_reason : ℕ → List FrameValue → SpaceValue S → Option EventRefusal
  page_in_reason vpn free process =
      if is_some process.running.ending then Some Ended else (if is_absent_at process vpn then (if none_free free then Some NoFrame else None) else Some NotAbsent)

  -- why a page is not brought in
  abbrev pub page_in_refusal : Key → CoreValue S → Option EventRefusal
  page_in_refusal key core = of_process (page_in_reason key.vpn core.pager.pager.free) (slice_get core.processes key.process)

  -- a page-in of the pager and of the key's process
  pub record PagesInAt (held : S → List ℕ) (honest : Type 0) (failures : S → ℕ) (key : Key) (pager pager' : PagerSideValue) (old new : List (SpaceValue S)) (reply : Reply) : Type 0 where
    pub process : SpaceValue S
    pub process' : SpaceValue S
    pub found : slice_get old key.process ≡ Some process
    pub how : PagesIn held honest failures key pager pager' process process' reply
    pub is : new ≡ slice_set old key.process process'

  -- an absent page of a live process is brought in where a frame is free: it is listed and mapped, or listed and withdrawn where it
  -- can't be loaded or mapped
  pub record PagesInOnce (held : S → List ℕ) (honest : Type 0) (failures : S → ℕ) (key : Key) (old new : CoreValue S) (reply : Reply) : Type 0 where
    pub allowed : page_in_refusal key old ≡ None
    pub process : SpaceValue S
    pub process' : SpaceValue S
    pub found : slice_get old.processes key.process ≡ Some process
    pub how : ComesIn held honest failures key old.pager new.pager process process' reply
        ⊎ (GoesBack held honest failures key old.pager new.pager process process' reply ⊎ IsNotListed held honest failures key old.pager new.pager process process' reply)
    pub processes : new.processes ≡ slice_set old.processes key.process process'
    pub stays : new ≡ record old { pager = new.pager; processes = new.processes }
