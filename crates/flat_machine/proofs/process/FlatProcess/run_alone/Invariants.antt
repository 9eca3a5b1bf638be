use Rattle.std.proofs.Common.{◌≡◌, ◌≤◌, ◌-◌, Some, true}
use Rattle.flat_machine.specs.Process.{may_step}
use Rattle.flat_machine.specs.ByTurns.{by_turns, turn_after}
use Rattle.flat_machine.proofs.process.FlatProcess.run_alone.Given as goal

abbrev pub invariant-loop-steps : goal.invariant-loop-steps
invariant-loop-steps l = record {
  ran : by_turns l.steps l.hart l.initial.self ≡ Some (l.hart, l.self);
  may : may_step l.hart l.self ≡ true;
  alone : turn_after l.hart l.self ≡ l.hart;
  within : l.steps ≤ l.most;
}

abbrev pub decreases-loop-steps : goal.decreases-loop-steps
decreases-loop-steps l = l.most - l.steps
