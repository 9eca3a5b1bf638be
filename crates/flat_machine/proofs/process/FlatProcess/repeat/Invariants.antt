use Rattle.std.proofs.Common.{◌≡◌, ◌≤◌, ◌-◌, Some, replicate}
use Rattle.flat_machine.specs.Process.{flat_run}
use Rattle.flat_machine.proofs.process.FlatProcess.repeat.Given as goal

abbrev pub invariant-loop-done : goal.invariant-loop-done
invariant-loop-done l = record {
  ran : flat_run (replicate l.done l.hart) l.initial.self ≡ Some l.self;
  within : l.done ≤ l.count;
}

abbrev pub decreases-loop-done : goal.decreases-loop-done
decreases-loop-done l = l.count - l.done
