use Rattle.std.proofs.Common.{◌≡◌, map, take}
use Rattle.page_policies.specs.Optimal.{optimal_misses}
use Rattle.whole_strings.proofs.several_frames.optimum_counts.Given as goal

abbrev pub invariant-frames : goal.invariant-frames
invariant-frames l = l.counts.items ≡ map (λ f. optimal_misses f.number l.string) (take l.number-index l.frames)
