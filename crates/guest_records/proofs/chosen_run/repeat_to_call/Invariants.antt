use Rattle.std.proofs.Common.{◌≡◌, Some, replicate}
use Rattle.flat_machine.specs.Process.{flat_run}
use Rattle.guest_records.proofs.chosen_run.repeat_to_call.Given as goal

-- So many steps of the hart are done.
abbrev pub invariant-loop-done : goal.invariant-loop-done
invariant-loop-done l = flat_run (replicate l.done l.hart) l.initial.process ≡ Some l.process
