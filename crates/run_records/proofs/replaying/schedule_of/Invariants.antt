use Rattle.std.proofs.Common.{◌≡◌, take}
use Rattle.flat_machine.specs.Schedule.{written_out}
use Rattle.run_records.proofs.replaying.schedule_of.Given as goal

-- The turns before the next one are recorded.
abbrev pub invariant-turns : goal.invariant-turns
invariant-turns l = written_out l.schedule ≡ written_out (take l.turn-index l.turns)
