use Rattle.std.proofs.Common.{◌≡◌, map, take}
use Rattle.miss_counts.specs.Counted.{count_of}
use Rattle.miss_counts.proofs.play_count.counts_by.Given as goal

abbrev pub invariant-policies : goal.invariant-policies
invariant-policies g l = l.counts.items ≡ map (count_of (g.C.PlayCount.counts l.counting) l.frames.number) (take l.at l.policies)
