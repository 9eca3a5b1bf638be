-- No hart that was passed is live.
use Rattle.std.proofs.Common.{◌≡◌}
use Rattle.env_calls.specs.Environment.{least_live_from}
use Rattle.paged_target.specs.Marks.{marks_at}
use Rattle.paged_target.proofs.harts.least_live_from.Given as goal

abbrev pub invariant-harts : goal.invariant-harts
invariant-harts g l = least_live_from l.number (marks_at l.core) ≡ least_live_from l.hart (marks_at l.core)
