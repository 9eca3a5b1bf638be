use Rattle.std.proofs.Common.{◌≡◌, ◌≤◌, ◌-◌, Some, true, length}
use Rattle.std.specs.Io.KnownBytes.{Appends}
use Rattle.flat_machine.specs.Process.{is_live}
use Rattle.flat_machine.specs.ByTurns.{by_turns, first_turn}
use Rattle.guest_cli.proofs.run_command.run_to_end.Given as goal

abbrev pub invariant-pieces : goal.invariant-pieces
invariant-pieces g l = record {
  ran : by_turns l.steps (first_turn l.fn.process) l.fn.process ≡ Some (l.turn, l.process);
  live : is_live l.turn l.process ≡ true;
  within : l.steps ≤ l.limit;
  counted : l.written ≡ length l.process.environment.output;
  written : Appends (g.O.Write.contents l.fn.out) (g.O.Write.contents l.out) l.process.environment.output;
}

abbrev pub decreases-pieces : goal.decreases-pieces
decreases-pieces g l = l.limit - l.steps
