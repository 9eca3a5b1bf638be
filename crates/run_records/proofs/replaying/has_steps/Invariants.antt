use Rattle.std.proofs.Common.{◌≡◌, ◌+◌, length, take}
use Rattle.flat_machine.specs.Schedule.{written_out}
use Rattle.run_records.proofs.replaying.has_steps.Given as goal

-- The steps of the turns before the next one are taken off.
abbrev pub invariant-turns : goal.invariant-turns
invariant-turns l = l.left + length (written_out (take l.turn-index l.turns)) ≡ l.steps
