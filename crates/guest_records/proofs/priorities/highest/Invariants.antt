use Rattle.std.proofs.Common.{◌≡◌, true}
use Rattle.flat_machine.specs.Process.{is_live}
use Rattle.guest_records.proofs.priorities.highest.Given as goal

-- The hart that was found is live.
abbrev pub invariant-harts : goal.invariant-harts
invariant-harts l = is_live l.found l.process ≡ true
