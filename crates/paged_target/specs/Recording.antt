-- The recorded order of a machine's one process, and when it takes no more.
use Rattle.std.specs.Prelude.{◌≡◌, ℕ, List, [], Option, None, Some, slice_get}
use Rattle.flat_machine.specs.Schedule.{room, written_out, IsJoined}
use Rattle.flat_machine.specs.declared.schedule.Turn.{Turn}
use Rattle.machine_core.specs.Machine.{CoreValue}
use Rattle.space_core.specs.StandsFor.{SpaceValue}

module _ {S : Type 0} where
  abbrev pub recorded_in : Option (SpaceValue S) → List ℕ
  recorded_in None = []
  recorded_in (Some side) = written_out side.schedule

  -- the harts of its completed instructions, in order
  abbrev pub recorded : CoreValue S → List ℕ
  recorded core = recorded_in (slice_get core.processes 0)

  abbrev pub room_in : ℕ → Option (SpaceValue S) → ℕ
  room_in hart None = 0
  room_in hart (Some side) = room side.schedule hart

  -- how many more instructions of a hart its schedule takes
  abbrev pub room_left : ℕ → CoreValue S → ℕ
  room_left hart core = room_in hart (slice_get core.processes 0)

-- The schedule in which this order is recorded has no room for one more instruction of a hart. There is one such schedule at most, since
-- neighbours of one hart are joined.
abbrev pub IsFull : List ℕ → ℕ → Type 0
IsFull order hart = (turns : List Turn) → IsJoined turns → written_out turns ≡ order → room turns hart ≡ 0
