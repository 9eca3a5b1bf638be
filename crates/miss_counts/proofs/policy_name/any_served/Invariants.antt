use Rattle.std.proofs.Common.{◌≡◌, drop, map}
use Rattle.miss_counts.specs.Counted.{any_served}
use Rattle.miss_counts.proofs.policy_name.any_served.Given as goal

abbrev pub invariant-frames : goal.invariant-frames
invariant-frames l = any_served l.policies (map (λ f. f.number) l.frames) ≡ any_served l.policies (map (λ f. f.number) (drop l.number-index l.frames))
