-- The numbers under which refusals of events are printed.
use Rattle.std.specs.Prelude.{ℕ}
use Rattle.machine_core.specs.declared.error.EventRefusal.{EventRefusal}
use Rattle.machine_core.specs.declared.error.EventRefusal.TheVariants.{NoProcess, NoHart, Ended, NotAbsent, NoFrame, NothingResident, NotLeaving, NotSaving, NotEnded, SavingStill, Purged, NoMemory, NotResident, NotChanged, AlreadyCleaning, NotCleaning, NotCopied}

abbrev pub refusal_number : EventRefusal → ℕ
refusal_number NoProcess = 1
refusal_number NoHart = 2
refusal_number Ended = 3
refusal_number NotAbsent = 4
refusal_number NoFrame = 5
refusal_number NothingResident = 6
refusal_number NotLeaving = 7
refusal_number NotSaving = 8
refusal_number NotEnded = 9
refusal_number SavingStill = 10
refusal_number Purged = 11
refusal_number NoMemory = 12
refusal_number NotResident = 13
refusal_number NotChanged = 14
refusal_number AlreadyCleaning = 15
refusal_number NotCleaning = 16
refusal_number NotCopied = 17
