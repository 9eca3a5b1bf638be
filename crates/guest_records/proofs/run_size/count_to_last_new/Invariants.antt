use Rattle.std.proofs.Common.{◌≤◌}
use Rattle.guest_records.proofs.run_size.count_to_last_new.Given as goal

-- The last step that was new is one of those that are done.
abbrev pub invariant-steps : goal.invariant-steps
invariant-steps l = l.last ≤ l.done
