use Rattle.std.proofs.Common.{◌≡◌, ◌≤◌, ◌-◌, Some, true}
use Rattle.flat_machine.specs.Process.{is_live}
use Rattle.flat_machine.specs.ByTurns.{by_turns}
use Rattle.flat_machine.proofs.process.FlatProcess.run_turns.Given as goal

abbrev pub invariant-loop-steps : goal.invariant-loop-steps
invariant-loop-steps l = record {
  ran : by_turns l.steps l.initial.turn l.initial.self ≡ Some (l.turn, l.self);
  within : l.steps ≤ l.most;
  lives : is_live l.turn l.self ≡ true;
}

abbrev pub decreases-loop-steps : goal.decreases-loop-steps
decreases-loop-steps l = l.most - l.steps
