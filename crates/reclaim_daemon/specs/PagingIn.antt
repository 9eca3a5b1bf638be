-- A page comes in by one hold: it is admitted under both locks, and loaded under its process's.
use Rattle.std.specs.Prelude.{◌≡◌, ℕ, Bool, true, false, List, Option, Some, None, Result, Ok, Err}
use Rattle.clock_policy.specs.declared.key.Key.{Key}
use Rattle.held_machine.specs.Admitting.{AdmitsHeld, RefusesHeld}
use Rattle.held_machine.specs.Answers.{IsOther}
use Rattle.held_machine.specs.DeskValue.{DeskValue}
use Rattle.held_machine.specs.HeldValue.{HeldValue}
use Rattle.held_machine.specs.Running.{LoadsHeld, DoesNotLoadHeld}
use Rattle.machine_sides.specs.Admitting.{AdmissionValue, is_resident_at}
use Rattle.machine_sides.specs.declared.admission.NotAdmitted.{NotAdmitted}
use Rattle.machine_sides.specs.declared.admission.NotAdmitted.TheVariants.{NotAbsent}
use Rattle.paged_memory.specs.declared.filling.PageInFault.{PageInFault}
use Rattle.reclaim_daemon.specs.declared.paging_in.PagedIn.{PagedIn}
use Rattle.reclaim_daemon.specs.declared.paging_in.PagedIn.TheVariants as paged

module _ {S : Type 0} (content : S → List ℕ) (honest : Type 0) (failures : S → ℕ) (key : Key) (desk desk' : DeskValue) (held held' : HeldValue S) where
  -- the page of this key is admitted, and that very page is loaded
  pub record PagesIn : Type 0 where
    pub admission : AdmissionValue
    pub admits : AdmitsHeld desk desk' held key admission
    pub loads : LoadsHeld content honest admission held held'

  -- it is admitted, and its load fails: the admission is out, and is to be undone
  pub record FailsToLoad (back : AdmissionValue) (fault : PageInFault) : Type 0 where
    pub admission : AdmissionValue
    pub admits : AdmitsHeld desk desk' held key admission
    pub refuses : DoesNotLoadHeld content honest failures admission back fault held held'

  -- it is resident already
  pub record IsHere : Type 0 where
    pub refuses : RefusesHeld desk desk' held key NotAbsent
    pub held_stays : held' ≡ held
    pub here : is_resident_at held.side key.vpn ≡ true

  -- it is not admitted; where it is not absent, it is not resident either
  pub record IsRefused (reason : NotAdmitted) : Type 0 where
    pub refuses : RefusesHeld desk desk' held key reason
    pub held_stays : held' ≡ held
    pub away : reason ≡ NotAbsent → is_resident_at held.side key.vpn ≡ false

  abbrev pub PagesInHeld : {L : Type 0} → Option (PagedIn L) → Type 0
  PagesInHeld None = IsOther key.process desk desk' held held'
  PagesInHeld (Some paged.Mapped) = PagesIn
  PagesInHeld (Some paged.Here) = IsHere
  PagesInHeld (Some (paged.NotAdmitted reason)) = IsRefused reason
  PagesInHeld (Some (paged.Failed back fault)) = FailsToLoad back fault

-- what a page that is not admitted comes to, which may be resident
unfoldable pub told_as : {L : Type 0} → Bool → NotAdmitted → PagedIn L
told_as true NotAbsent = paged.Here
told_as true reason = paged.NotAdmitted reason
told_as false reason = paged.NotAdmitted reason

module _ {S : Type 0} (content : S → List ℕ) (honest : Type 0) (failures : S → ℕ) (key : Key) (held held' : HeldValue S) where
  -- an admitted page is loaded, or its admission comes back
  abbrev pub LoadsOne : {L : Type 0} → AdmissionValue → Option (PagedIn L) → Type 0
  LoadsOne admission None = ⊥
  LoadsOne admission (Some paged.Mapped) = LoadsHeld content honest admission held held'
  LoadsOne admission (Some paged.Here) = ⊥
  LoadsOne admission (Some (paged.NotAdmitted reason)) = ⊥
  LoadsOne admission (Some (paged.Failed back fault)) = DoesNotLoadHeld content honest failures admission back fault held held'

  -- the same of a page that may not have been admitted
  abbrev pub LoadsAdmitted : {L : Type 0} → Option (Result AdmissionValue NotAdmitted) → Option (PagedIn L) → Type 0
  LoadsAdmitted None reply = (reply ≡ None) × (held' ≡ held)
  LoadsAdmitted (Some (Err reason)) reply = (reply ≡ Some (told_as (is_resident_at held.side key.vpn) reason)) × (held' ≡ held)
  LoadsAdmitted (Some (Ok admission)) reply = LoadsOne admission reply
