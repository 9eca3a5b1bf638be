use Rattle.std.proofs.Common.{◌≤◌}
use Rattle.guest_records.proofs.live_harts.count_live.Given as goal

-- Each hart counts once at most.
abbrev pub invariant-harts : goal.invariant-harts
invariant-harts l = l.count ≤ l.hart
