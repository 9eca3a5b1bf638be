use Rattle.std.proofs.Common.{◌≡◌, ◌≤◌, ◌*◌, length, take}
use Rattle.flat_machine.specs.Schedule.{written_out}
use Rattle.serial_driver.proofs.steps.steps_of.Given as goal

abbrev pub invariant-turns : goal.invariant-turns
invariant-turns l = (l.steps ≡ length (written_out (take l.turn-index l.turn-items))) × (l.steps ≤ l.turn-index * 4294967295)
