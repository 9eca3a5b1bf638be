-- Which answers count as a try of the page's process: its page failed to leave its frame.
use Rattle.std.specs.Prelude.{Bool, true, false}
use Rattle.machine_sides.specs.declared.collecting.Looked.{Looked}
use Rattle.machine_sides.specs.declared.collecting.Looked.TheVariants as look
use Rattle.machine_sides.specs.declared.saving_back.SaveOutcome.{SaveOutcome}
use Rattle.machine_sides.specs.declared.saving_back.SaveOutcome.TheVariants as save

abbrev pub look_failed : {S : Type 0} → Looked S → Bool
look_failed look.NotLeaving = false
look_failed look.NotYet = false
look_failed look.Freed = false
look_failed (look.Dirty job) = false
look_failed look.NoSlot = true

abbrev pub save_failed : {S : Type 0} → SaveOutcome S → Bool
save_failed save.Freed = false
save_failed (save.WrongPage job) = false
save_failed (save.ResidentAgain failure) = true
