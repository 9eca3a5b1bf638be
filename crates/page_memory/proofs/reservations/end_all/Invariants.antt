use Rattle.std.proofs.Common.{◌≡◌}
use Rattle.page_memory.proofs.Reserving.{left_below}
use Rattle.page_memory.proofs.reservations.end_all.Given as goal

-- the reservations so far are those that are left
abbrev pub invariant-loop-hart : goal.invariant-loop-hart
invariant-loop-hart l = l.by_hart ≡ left_below l.address l.count l.initial.by_hart l.hart
