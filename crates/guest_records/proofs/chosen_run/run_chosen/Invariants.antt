use Rattle.std.proofs.Common.{◌≤◌, ◌-◌}
use Rattle.guest_records.specs.GoingOn.{GoesOn}
use Rattle.guest_records.proofs.chosen_run.run_chosen.Given as goal

-- The steps that are counted are done, and recorded.
abbrev pub invariant-turns : goal.invariant-turns
invariant-turns l = GoesOn l.initial.schedule l.initial.process l.schedule l.process l.steps × (l.steps ≤ l.limit)

abbrev pub decreases-turns : goal.decreases-turns
decreases-turns l = l.limit - l.steps
