-- The steps of the event of a save that comes back: the save's end, and the reply to it.
use Rattle.std.specs.Prelude.{◌≡◌, ℕ, List, Some, slice_get, slice_set}
use Rattle.page_store.specs.JobValue.{SavedValue}
use Rattle.paged_memory.specs.Paged.{memory_of}
use Rattle.machine_core.specs.declared.event.Reply.{Reply}
use Rattle.machine_core.specs.declared.event.Reply.TheVariants as reply
use Rattle.machine_sides.specs.declared.saving_back.SaveFailure.TheVariants.{Device}
use Rattle.machine_sides.specs.declared.saving_back.SaveOutcome.{SaveOutcome}
use Rattle.machine_sides.specs.declared.saving_back.SaveOutcome.TheVariants.{Freed, WrongPage, ResidentAgain}
use Rattle.machine_sides.specs.SavingBack.{EndsSave}
use Rattle.machine_sides.specs.Sides.{PagerSideValue}
use Rattle.space_core.specs.StandsFor.{SpaceValue}

module _ {S : Type 0} where
  -- a save comes back to the pager and the process of this number
  pub record SavedAt (held : S → List ℕ) (honest : Type 0) (saved : SavedValue S) (pager pager' : PagerSideValue) (number : ℕ) (old new : List (SpaceValue S)) (outcome : SaveOutcome S) : Type 0 where
    pub process : SpaceValue S
    pub process' : SpaceValue S
    pub found : slice_get old number ≡ Some process
    pub ends : EndsSave saved pager pager' process process' outcome
    pub memory : honest → memory_of held process'.memory ≡ memory_of held process.memory
    pub is : new ≡ slice_set old number process'

  -- what comes of a save that the machine made itself
  abbrev pub IsOwn : SaveOutcome S → Type 0
  IsOwn Freed = Unit {0}
  IsOwn (WrongPage job) = ⊥
  IsOwn (ResidentAgain failure) = failure ≡ Device

  -- the reply to it
  abbrev pub RepliesTo : SaveOutcome S → Reply → Type 0
  RepliesTo Freed answer = answer ≡ reply.Freed
  RepliesTo (WrongPage job) answer = ⊥
  RepliesTo (ResidentAgain failure) answer = answer ≡ reply.Device
