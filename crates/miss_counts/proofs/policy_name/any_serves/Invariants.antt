use Rattle.std.proofs.Common.{◌≡◌, drop}
use Rattle.miss_counts.specs.Counted.{any_serves}
use Rattle.miss_counts.proofs.policy_name.any_serves.Given as goal

abbrev pub invariant-policies : goal.invariant-policies
invariant-policies l = any_serves l.policies l.frames.number ≡ any_serves (drop l.policy-index l.policies) l.frames.number
