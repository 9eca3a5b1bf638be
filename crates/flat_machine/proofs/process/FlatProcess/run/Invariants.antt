use Rattle.std.proofs.Common.{◌≡◌, ◌≤◌, ◌*◌, Some, take, length}
use Rattle.flat_machine.specs.Process.{flat_run}
use Rattle.flat_machine.specs.Schedule.{written_out}
use Rattle.flat_machine.proofs.process.FlatProcess.run.Given as goal

abbrev pub invariant-loop-turn : goal.invariant-loop-turn
invariant-loop-turn l = record {
  ran : flat_run (written_out (take l.turn-index l.turn-items)) l.initial.self ≡ Some l.self;
  counted : l.before ≡ length (written_out (take l.turn-index l.turn-items));
  bounded : l.before ≤ 4294967295 * l.turn-index;
}
