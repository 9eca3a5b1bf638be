-- No hart that was passed is live.
use Rattle.std.proofs.Common.{◌≡◌}
use Rattle.env_calls.specs.Environment.{least_live_from}
use Rattle.env_calls.proofs.live_harts.least_live_from.Given as goal

abbrev pub invariant-loop-hart : goal.invariant-loop-hart
invariant-loop-hart l = least_live_from l.number l.marks ≡ least_live_from l.hart l.marks
