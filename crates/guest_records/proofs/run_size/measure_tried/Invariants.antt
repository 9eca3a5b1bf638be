use Rattle.std.proofs.Common.{◌≤◌, IfSome}
use Rattle.flat_machine.specs.Process.{opening}
use Rattle.guest_records.specs.GoingOn.{EndsAfter}
use Rattle.guest_records.proofs.run_size.measure_tried.Given as goal

-- The shortest run that was found ends, within the limit.
abbrev pub invariant-seeds : goal.invariant-seeds
invariant-seeds l = IfSome l.shortest (λ size. size.steps ≤ l.limit) × IfSome l.shortest (λ size. EndsAfter size.steps (opening l.image l.input))
