use Rattle.std.specs.Prelude.{◌≡◌, Some, map, take}
use Rattle.miss_counts.proofs.counts.as_asked.Given as goal

abbrev pub invariant-counts : goal.invariant-counts
invariant-counts l = l.floors.items ≡ map (λ n. Some n) (take l.count-index l.counts)
