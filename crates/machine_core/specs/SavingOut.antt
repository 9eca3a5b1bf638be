-- The event of a page's save: the save that is out is made, and comes back to the pager and its process.
use Rattle.std.specs.Prelude.{◌≡◌, ◌⊎◌, ◌≤◌, ℕ, Bool, List, ◌∷◌, Option, Some, None, slice_get, slice_set, IsTrue, IsFalse, IsPermutation, if◌then◌else◌}
use Rattle.clock_policy.specs.declared.key.Key.{Key}
use Rattle.clock_policy.specs.Residents.{is_key}
use Rattle.page_store.specs.JobValue.{JobValue, SavedValue}
use Rattle.paged_memory.specs.Paged.{memory_of}
use Rattle.swap_slots.specs.Slot.{Rose}
use Rattle.machine_core.specs.declared.error.EventRefusal.{EventRefusal}
use Rattle.machine_core.specs.declared.error.EventRefusal.TheVariants as refusal
use Rattle.machine_core.specs.declared.event.Reply.{Reply}
use Rattle.machine_core.specs.declared.event.Reply.TheVariants as reply
use Rattle.machine_sides.specs.declared.saving_back.SaveFailure.TheVariants.{Device}
use Rattle.machine_core.specs.Machine.{CoreValue}
use Rattle.machine_core.specs.MachineRun.{of_process}
use Rattle.machine_sides.specs.SavingBack.{is_saving_at, IsFreed, FailsAndReturns}
use Rattle.machine_sides.specs.Sides.{PagerSideValue}
use Rattle.machine_sides.specs.Together.{key_of}
use Rattle.space_core.specs.StandsFor.{SpaceValue}

module _ {S : Type 0} where
  abbrev pub saving_reason : ℕ → SpaceValue S → Option EventRefusal
  saving_reason vpn process = if is_saving_at process vpn then None else Some refusal.NotSaving

  -- why no save of a page comes back
  abbrev pub saved_refusal : Key → List (SpaceValue S) → Option EventRefusal
  saved_refusal key processes = of_process (saving_reason key.vpn) (slice_get processes key.process)

  -- whether a save is of a page
  abbrev pub is_save_of : Key → JobValue S → Bool
  is_save_of key job = is_key key (key_of job.process job.vpn)

  -- the save of a page is taken from those that are out, and made: its slot holds the copy where the device passed it and
  -- slots are honest; and a failure is counted where the device did not pass it, and nowhere else
  pub record MakesSave (held : S → List ℕ) (honest : Type 0) (failures : S → ℕ) (key : Key) (old new : List (JobValue S)) (saved : SavedValue S) : Type 0 where
    pub job : JobValue S
    pub taken : IsPermutation old (job ∷ new)
    pub job_process : job.process ≡ key.process
    pub job_page : job.vpn ≡ key.vpn
    pub process : saved.process ≡ job.process
    pub page : saved.vpn ≡ job.vpn
    pub copy : saved.copy ≡ job.copy
    pub kept : honest → IsTrue saved.passed → held saved.slot ≡ job.copy
    pub passed : IsTrue saved.passed → failures saved.slot ≡ failures job.slot
    pub fault : IsFalse saved.passed → Rose (failures job.slot) (failures saved.slot)
    pub counted : failures job.slot ≤ failures saved.slot

  -- what a save that comes back is replied with: its page's frame is free, or the device failed and the page is resident again
  abbrev pub EndsSaving : SavedValue S → PagerSideValue → PagerSideValue → SpaceValue S → SpaceValue S → Reply → Type 0
  EndsSaving saved pager pager' process process' answer =
      (IsFreed saved pager pager' process process' × (answer ≡ reply.Freed))
      ⊎ (FailsAndReturns saved pager pager' process process' Device × (answer ≡ reply.Device))

  -- a save of a page that is out is made and comes back
  pub record SavesOnce (held : S → List ℕ) (honest : Type 0) (failures : S → ℕ) (key : Key) (old new : CoreValue S) (answer : Reply) : Type 0 where
    pub allowed : saved_refusal key old.processes ≡ None
    pub process : SpaceValue S
    pub process' : SpaceValue S
    pub found : slice_get old.processes key.process ≡ Some process
    pub saved : SavedValue S
    pub makes : MakesSave held honest failures key old.jobs new.jobs saved
    pub ends : EndsSaving saved old.pager new.pager process process' answer
    pub memory : honest → memory_of held process'.memory ≡ memory_of held process.memory
    pub processes : new.processes ≡ slice_set old.processes key.process process'
    pub stays : new ≡ record old { pager = new.pager; processes = new.processes; jobs = new.jobs }
