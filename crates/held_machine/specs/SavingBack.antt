-- A save comes back under both locks.
use Rattle.std.specs.Prelude.{◌≡◌, ◌≢◌, ◌⊎◌, ◌&&◌, false, Option, Some, None}
use Rattle.machine_sides.specs.SavingBack.{EndsSave}
use Rattle.machine_sides.specs.Together.{key_of}
use Rattle.machine_sides.specs.declared.saving_back.SaveOutcome.{SaveOutcome}
use Rattle.page_store.specs.JobValue.{SavedValue}
use Rattle.pager_core.specs.Pager.{takes_back}
use Rattle.held_machine.specs.Answers.{CallsNone, Answers}
use Rattle.held_machine.specs.DeskValue.{DeskValue}
use Rattle.held_machine.specs.Expected.{is_expected_end}
use Rattle.held_machine.specs.HeldValue.{HeldValue, tried_if}
use Rattle.held_machine.specs.Tries.{save_failed}

module _ {S : Type 0} (job : SavedValue S) (desk desk' : DeskValue) (held held' : HeldValue S) where
  -- What was done, in the words of the save's end itself; a page whose save failed counts as tried for. No call was made where the process is
  -- another one, or the list would not take the page back.
  abbrev pub SavesHeld : Option (SaveOutcome S) → Type 0
  SavesHeld None =
      CallsNone job.process desk desk' held held'
      ((held.side.memory.process ≢ job.process) ⊎ (takes_back (key_of job.process job.vpn) desk.pager.pager.list ≡ false))
  SavesHeld (Some outcome) =
      Answers job.process desk desk' held held' (tried_if (save_failed outcome) held.tries) (desk.sound && is_expected_end outcome)
      (EndsSave job desk.pager desk'.pager held.side held'.side outcome)
