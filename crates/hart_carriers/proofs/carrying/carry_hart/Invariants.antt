-- What ran so far and what is left is no more than the turn had left at first.
use Rattle.std.proofs.Common.{◌≤◌, ◌+◌}
use Rattle.hart_carriers.specs.Turns.{turn_of}
use Rattle.hart_carriers.proofs.carrying.carry_hart.Given as goal

abbrev pub invariant-turn : goal.invariant-turn
invariant-turn g l = l.ran + l.seat.left ≤ turn_of l.shift.slice l.fn.seat.left
