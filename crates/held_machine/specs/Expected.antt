-- Which ends of a save an event of the machine gives: after any other a machine is not sound.
use Rattle.std.specs.Prelude.{Bool, true, false}
use Rattle.machine_sides.specs.declared.saving_back.SaveFailure.{SaveFailure}
use Rattle.machine_sides.specs.declared.saving_back.SaveFailure.TheVariants.{Mismatch, Device}
use Rattle.machine_sides.specs.declared.saving_back.SaveOutcome.{SaveOutcome}
use Rattle.machine_sides.specs.declared.saving_back.SaveOutcome.TheVariants as save

-- whether it is the device that failed: a frame holds what was copied of it until its save comes back
abbrev pub is_device : SaveFailure → Bool
is_device Mismatch = false
is_device Device = true

-- the end of a save: it is of a page that is being saved, and fails only by the device
abbrev pub is_expected_end : {S : Type 0} → SaveOutcome S → Bool
is_expected_end save.Freed = true
is_expected_end (save.WrongPage job) = false
is_expected_end (save.ResidentAgain failure) = is_device failure
