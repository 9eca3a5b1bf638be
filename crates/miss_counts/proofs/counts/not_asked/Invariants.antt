use Rattle.std.specs.Prelude.{◌≡◌, None, map, take}
use Rattle.miss_counts.proofs.counts.not_asked.Given as goal

abbrev pub invariant-frames : goal.invariant-frames
invariant-frames l = l.floors.items ≡ map (λ f. None) (take l.number-index l.frames)
