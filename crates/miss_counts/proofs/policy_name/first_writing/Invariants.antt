use Rattle.std.proofs.Common.{◌≡◌, drop}
use Rattle.miss_counts.specs.Counted.{any_needs_writes}
use Rattle.miss_counts.proofs.policy_name.first_writing.Given as goal

abbrev pub invariant-policies : goal.invariant-policies
invariant-policies l = any_needs_writes l.policies ≡ any_needs_writes (drop l.policy-index l.policies)
