-- The machine's events of a page that is cleaned while it is used: when each is refused, and what comes of it.
use Rattle.std.specs.Prelude.{◌≡◌, ℕ, List, [], ◌∷◌, ◌++◌, Option, Some, None, option_map, position, slice_get, slice_set}
use Rattle.clock_policy.specs.declared.key.Key.{Key}
use Rattle.page_store.specs.JobValue.{JobValue, SavedValue}
use Rattle.page_store.specs.declared.answer.CleanCopy.TheVariants as answered
use Rattle.page_store.specs.declared.answer.Cleaned.{Cleaned}
use Rattle.page_store.specs.declared.answer.Cleaned.TheVariants as end
use Rattle.paged_memory.specs.Paged.{memory_of}
use Rattle.machine_core.specs.declared.error.EventRefusal.{EventRefusal}
use Rattle.machine_core.specs.declared.error.EventRefusal.TheVariants as refusal
use Rattle.machine_core.specs.declared.event.Reply.{Reply}
use Rattle.machine_core.specs.declared.event.Reply.TheVariants as reply
use Rattle.machine_core.specs.Machine.{CoreValue}
use Rattle.machine_core.specs.MachineRun.{of_process}
use Rattle.machine_core.specs.SavingOut.{is_save_of, MakesSave}
use Rattle.machine_sides.specs.Cleaning.{StartsCleaning, PageCopied, TakesCopyBack, clean_bars, copy_bars}
use Rattle.machine_sides.specs.declared.cleaning.CleanBar.{CleanBar}
use Rattle.machine_sides.specs.declared.cleaning.CleanBar.TheVariants as bar
use Rattle.machine_sides.specs.declared.cleaning.CopyBar.{CopyBar}
use Rattle.machine_sides.specs.declared.cleaning.CopyBar.TheVariants as copy
use Rattle.machine_sides.specs.declared.cleaning.Copying.TheVariants.{Stored, NotYet, NoSlot, Copied}
use Rattle.space_core.specs.StandsFor.{SpaceValue}

-- what bars a page's cleaning, and a copy of it, as refusals of events
abbrev pub clean_barred : CleanBar → EventRefusal
clean_barred bar.Ended = refusal.Ended
clean_barred bar.NotResident = refusal.NotResident
clean_barred bar.NotChanged = refusal.NotChanged
clean_barred bar.AlreadyCleaning = refusal.AlreadyCleaning

abbrev pub copy_barred : CopyBar → EventRefusal
copy_barred copy.Ended = refusal.Ended
copy_barred copy.NotCleaning = refusal.NotCleaning

-- no copy of the page is out
abbrev pub unless_out : Option ℕ → Option EventRefusal
unless_out (Some place) = None
unless_out None = Some refusal.NotCopied

module _ {S : Type 0} where
  -- ---- why each is refused

  abbrev pub clean_reason : ℕ → SpaceValue S → Option EventRefusal
  clean_reason vpn process = option_map clean_barred (clean_bars process vpn)

  abbrev pub clean_refusal : Key → List (SpaceValue S) → Option EventRefusal
  clean_refusal key processes = of_process (clean_reason key.vpn) (slice_get processes key.process)

  abbrev pub copy_reason : ℕ → SpaceValue S → Option EventRefusal
  copy_reason vpn process = option_map copy_barred (copy_bars process vpn)

  abbrev pub copy_refusal : Key → List (SpaceValue S) → Option EventRefusal
  copy_refusal key processes = of_process (copy_reason key.vpn) (slice_get processes key.process)

  abbrev pub cleaned_refusal : Key → CoreValue S → Option EventRefusal
  cleaned_refusal key core = of_process (λ process. unless_out (position (is_save_of key) core.copies)) (slice_get core.processes key.process)

  -- ---- what comes of each

  -- a changed resident page's cleaning begins
  pub record CleansOnce (held : S → List ℕ) (key : Key) (old new : CoreValue S) (answer : Reply) : Type 0 where
    pub allowed : clean_refusal key old.processes ≡ None
    pub process : SpaceValue S
    pub process' : SpaceValue S
    pub found : slice_get old.processes key.process ≡ Some process
    pub starts : StartsCleaning key.vpn process process'
    pub memory : memory_of held process'.memory ≡ memory_of held process.memory
    pub processes : new.processes ≡ slice_set old.processes key.process process'
    pub stays : new ≡ record old { processes = new.processes }
    pub reply_is : answer ≡ reply.Cleaning

  module _ (vpn : ℕ) (old new : CoreValue S) (process process' : SpaceValue S) (told : Reply) where
    -- what the copy of a page comes to in the machine, with the copies that are then out and the reply
    pub data CopiesTo : Type 0 where
      stored : PageCopied vpn answered.Stored process process' old.slots new.slots → new.copies ≡ old.copies → told ≡ reply.Stored → CopiesTo
      not_yet : PageCopied vpn answered.NotYet process process' old.slots new.slots → new.copies ≡ old.copies → told ≡ reply.NotYet → CopiesTo
      no_slot : PageCopied vpn answered.NoSlot process process' old.slots new.slots → new.copies ≡ old.copies → told ≡ reply.NoSlot → CopiesTo
      copied : (job : JobValue S) → PageCopied vpn (answered.Copied job) process process' old.slots new.slots → new.copies ≡ old.copies ++ job ∷ [] → told ≡ reply.Copied → CopiesTo

  -- a copy of a page that is being cleaned is asked for
  pub record CopiesOnce (held : S → List ℕ) (key : Key) (old new : CoreValue S) (answer : Reply) : Type 0 where
    pub allowed : copy_refusal key old.processes ≡ None
    pub process : SpaceValue S
    pub process' : SpaceValue S
    pub found : slice_get old.processes key.process ≡ Some process
    pub comes_to : CopiesTo key.vpn old new process process' answer
    pub memory : memory_of held process'.memory ≡ memory_of held process.memory
    pub processes : new.processes ≡ slice_set old.processes key.process process'
    pub stays : new ≡ record old { slots = new.slots; processes = new.processes; copies = new.copies }

  abbrev pub RepliesBack : Cleaned S → Reply → Type 0
  RepliesBack (end.WrongPage back) answer = ⊥
  RepliesBack end.Stored answer = answer ≡ reply.Stored
  RepliesBack end.Device answer = answer ≡ reply.Device
  RepliesBack end.Clean answer = answer ≡ reply.Cleaned

  -- a copy of a page that is out is written and comes back
  pub record CleanedOnce (held : S → List ℕ) (honest : Type 0) (failures : S → ℕ) (key : Key) (old new : CoreValue S) (answer : Reply) : Type 0 where
    pub allowed : cleaned_refusal key old ≡ None
    pub process : SpaceValue S
    pub process' : SpaceValue S
    pub found : slice_get old.processes key.process ≡ Some process
    pub job : SavedValue S
    pub makes : MakesSave held honest failures key old.copies new.copies job
    pub came : Cleaned S
    pub ends : TakesCopyBack job came process process'
    pub told : RepliesBack came answer
    pub memory : memory_of held process'.memory ≡ memory_of held process.memory
    pub processes : new.processes ≡ slice_set old.processes key.process process'
    pub stays : new ≡ record old { processes = new.processes; copies = new.copies }
