-- The numbers of the debugger's refusals.
use Rattle.std.specs.Prelude.{ℕ}
use Rattle.debug_core.specs.declared.refusal.DebugRefusal.{DebugRefusal}
use Rattle.debug_core.specs.declared.refusal.DebugRefusal.TheVariants.{Full, BadRange, NoPoint, NoHart, Ended, NotMapped, Purged, Device, NoMemory}

abbrev pub refusal_number : DebugRefusal → ℕ
refusal_number Full = 1
refusal_number BadRange = 2
refusal_number NoPoint = 3
refusal_number NoHart = 4
refusal_number Ended = 5
refusal_number NotMapped = 6
refusal_number Purged = 7
refusal_number Device = 8
refusal_number NoMemory = 9
