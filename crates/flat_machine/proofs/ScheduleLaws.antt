-- When a schedule takes no more instructions of a hart.
use Rattle.std.specs.Prelude.{◌≡◌, ℕ, ◌≤◌, List, length}
use Rattle.std.proofs.Common.{arith}
use Rattle.flat_machine.specs.declared.schedule.Turn.{Turn}
use Rattle.flat_machine.specs.Schedule.{rest_in_last, room}

-- exactly where it has all its entries, and the last of them takes none of the hart
pub no_room : (turns : List Turn) (hart : ℕ) → length turns ≤ 1000000 → room turns hart ≡ 0 → (length turns ≡ 1000000) × (rest_in_last turns hart ≡ 0)
unfolding room
no_room turns hart few none = (omega arith, omega arith)

pub no_room_where : (turns : List Turn) (hart : ℕ) → length turns ≡ 1000000 → rest_in_last turns hart ≡ 0 → room turns hart ≡ 0
unfolding room
no_room_where turns hart full rest = omega arith
