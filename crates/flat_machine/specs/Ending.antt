-- Why the machine ended a process: the number of the cause, and its text.
use Rattle.std.specs.Prelude.{ℕ, List, codes}
use Rattle.flat_machine.specs.declared.end.KillCause.{KillCause}
use Rattle.flat_machine.specs.declared.end.KillCause.TheVariants.{NoSwap, LoadFailed, Damaged, ScheduleFull, NoMemory, Limit}

abbrev pub kill_number : KillCause → ℕ
kill_number NoSwap = 1
kill_number LoadFailed = 2
kill_number Damaged = 3
kill_number ScheduleFull = 4
kill_number NoMemory = 5
kill_number Limit = 6

-- what is printed of a cause
abbrev pub kill_text : KillCause → List ℕ
kill_text NoSwap = codes "no swap"
kill_text LoadFailed = codes "load failed"
kill_text Damaged = codes "damaged"
kill_text ScheduleFull = codes "schedule full"
kill_text NoMemory = codes "no memory"
kill_text Limit = codes "limit"
