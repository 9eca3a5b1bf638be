-- A save comes back: its page goes to its slot and lets its frame go, or the save failed and the page is resident again.
use Rattle.std.specs.Prelude.{◌≡◌, ◌≢◌, ℕ, Bool, ◌++◌, [], ◌∷◌, length, IsFalse, Result, Ok, Err}
use Rattle.frame_pool.specs.FrameValue.{FrameValue}
use Rattle.page_store.specs.JobValue.{SavedValue}
use Rattle.page_store.specs.declared.answer.SaveRefusal.{SaveRefusal}
use Rattle.page_store.specs.declared.answer.SaveRefusal.TheVariants as refusal
use Rattle.paged_memory.specs.moves.Moving.{SavedAway, IsOutOf}
use Rattle.paged_memory.specs.moves.Moving as moving
use Rattle.paged_memory.specs.Paged.{PagedValue}
use Rattle.paged_memory.specs.moves.Stages.{is_saving_stage}
use Rattle.pager_core.specs.Pager.{tallied}
use Rattle.space_core.specs.StandsFor.{SpaceValue}
use Rattle.machine_sides.specs.Admitting.{stage_at}
use Rattle.machine_sides.specs.declared.saving_back.SaveFailure.{SaveFailure}
use Rattle.machine_sides.specs.declared.saving_back.SaveFailure.TheVariants.{Mismatch, Device}
use Rattle.machine_sides.specs.declared.saving_back.SaveOutcome.{SaveOutcome}
use Rattle.machine_sides.specs.declared.saving_back.SaveOutcome.TheVariants.{Freed, WrongPage, ResidentAgain}
use Rattle.machine_sides.specs.Returning.{ComesBack}
use Rattle.machine_sides.specs.Sides.{PagerSideValue, MovesMemory}

-- the frame of a page that was saved is free, and counted
abbrev pub FreesFrame : FrameValue → PagerSideValue → PagerSideValue → Type 0
FreesFrame frame old new = new ≡ record old { pager = record old.pager { free = old.pager.free ++ frame ∷ [] }; saves = tallied old.saves }

module _ {S : Type 0} where
  -- whether the page of a number is being saved, whatever the number
  abbrev pub is_saving_at : SpaceValue S → ℕ → Bool
  is_saving_at space vpn = is_saving_stage (stage_at space vpn)

  -- what shows that a save failed: the frame does not hold what was copied, or it does and the device failed
  abbrev pub ShowsFailure : SaveFailure → SavedValue S → FrameValue → Type 0
  ShowsFailure Mismatch job frame = frame.bytes ≢ job.copy
  ShowsFailure Device job frame = (frame.bytes ≡ job.copy) × IsFalse job.passed

  -- the page of a save that failed leaves again in its frame, with the slot of the save, and counts as changed
  abbrev pub LeavesAgain : SaveFailure → SavedValue S → PagedValue S → PagedValue S → Type 0
  LeavesAgain failure job old new = moving.LeavesAgain (ShowsFailure failure job) job old new

  module _ (job : SavedValue S) where
    -- what a save that comes back does to its process: it passed, or it is of no page that is being saved, or it failed
    abbrev pub Ends : SpaceValue S → SpaceValue S → Result FrameValue (SaveRefusal S) → Type 0
    Ends old new (Ok frame) = MovesMemory (SavedAway job frame) old new
    Ends old new (Err (refusal.WrongPage back)) = (back ≡ job) × ((new ≡ old) × (¬ IsOutOf job old.memory))
    Ends old new (Err refusal.Mismatch) = MovesMemory (LeavesAgain Mismatch job) old new
    Ends old new (Err refusal.Device) = MovesMemory (LeavesAgain Device job) old new

    module _ (pager pager' : PagerSideValue) (process process' : SpaceValue S) where
      -- the page is in its slot, and its frame, which holds what was saved, is free
      pub record IsFreed : Type 0 where
        pub frame : FrameValue
        pub settles : MovesMemory (SavedAway job frame) process process'
        pub frees : FreesFrame frame pager pager'

      -- no save of this page is out in the process
      pub record IsOfNoPage (back : SavedValue S) : Type 0 where
        pub back_is : back ≡ job
        pub why : ¬ IsOutOf job process.memory
        pub pager_stays : pager' ≡ pager
        pub process_stays : process' ≡ process

      -- the save failed, and the page is taken back by the list and resident again
      pub record FailsAndReturns (failure : SaveFailure) : Type 0 where
        pub between : SpaceValue S
        pub settles : MovesMemory (LeavesAgain failure job) process between
        pub returns : ComesBack job.vpn pager pager' between process'

    -- a save comes back to the pager and its process
    abbrev pub EndsSave : PagerSideValue → PagerSideValue → SpaceValue S → SpaceValue S → SaveOutcome S → Type 0
    EndsSave pager pager' process process' Freed = IsFreed pager pager' process process'
    EndsSave pager pager' process process' (WrongPage back) = IsOfNoPage pager pager' process process' back
    EndsSave pager pager' process process' (ResidentAgain failure) = FailsAndReturns pager pager' process process' failure
