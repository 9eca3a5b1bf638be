use Rattle.std.proofs.Common.{◌≡◌, ◌/◌, ◌++◌, map, take, drop, length}
use Rattle.tiny_lfu.proofs.sketch.halve.Given as goal

abbrev pub invariant-counts : goal.invariant-counts
invariant-counts l = record {
  halved : map (λ n. n / 2) l.initial.counts ≡ take l.at l.counts ++ map (λ n. n / 2) (drop l.at l.counts);
  size : length l.counts ≡ length l.initial.counts;
}
