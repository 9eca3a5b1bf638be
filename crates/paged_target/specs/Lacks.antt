-- What a debugger's target on paged memory may lack.
use Rattle.std.specs.Prelude.{ℕ, List, ◌++◌}
use Rattle.debug_core.specs.Limits.{CannotHave, CannotRead, CannotRecord, KeepsRoom, Limit, RecordsOne}
use Rattle.machine_core.specs.Machine.{CoreValue}
use Rattle.paged_target.specs.GivenUp.{IsGivenUp}
use Rattle.paged_target.specs.Recording.{recorded, IsFull}
use Rattle.paged_target.specs.Shown.{TargetValue}
use Rattle.serial_driver.specs.declared.serving.ServedStep.{ServedStep}
use Rattle.serial_driver.specs.declared.serving.ServedStep.TheVariants.{Ran, Absent, Full, NoMemory}

-- Every byte can be read, since no page is given back and slots in memory do not fail; no more is recorded than a schedule takes; and a
-- page that the next step of a hart needs can't be had where a run gives its instruction up.
abbrev pub LacksOn : CoreValue (List ℕ) → Limit → Type 0
LacksOn core (CannotRead address count why) = ⊥
LacksOn core (CannotRecord harts hart) = IsFull (recorded core ++ harts) hart
LacksOn core (CannotHave hart) = IsGivenUp hart core

-- what can be recorded once an instruction was served
abbrev pub LeavesRoomFor : ServedStep → ℕ → CoreValue (List ℕ) → CoreValue (List ℕ) → Type 0
LeavesRoomFor Ran hart old new = RecordsOne hart (LacksOn old) (LacksOn new)
LeavesRoomFor Absent hart old new = KeepsRoom (LacksOn old) (LacksOn new)
LeavesRoomFor Full hart old new = KeepsRoom (LacksOn old) (LacksOn new)
LeavesRoomFor NoMemory hart old new = KeepsRoom (LacksOn old) (LacksOn new)

abbrev pub Lacks : TargetValue → Limit → Type 0
Lacks target limit = LacksOn target.core limit
