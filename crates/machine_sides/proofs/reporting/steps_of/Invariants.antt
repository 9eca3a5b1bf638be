use Rattle.std.proofs.Common.{◌≡◌, ◌≤◌, ◌*◌, length, take}
use Rattle.flat_machine.specs.Schedule.{written_out}
use Rattle.machine_sides.proofs.reporting.steps_of.Given as goal

abbrev pub invariant-turns : goal.invariant-turns
invariant-turns l = (l.steps ≡ length (written_out (take l.turn-index l.turns))) × (l.steps ≤ l.turn-index * 4294967295)
