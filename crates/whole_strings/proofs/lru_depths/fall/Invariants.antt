use Rattle.std.proofs.Common.{◌≡◌, ◌++◌, take, drop, length}
use Rattle.whole_strings.specs.LruDepths.{tails}
use Rattle.whole_strings.proofs.lru_depths.fall.Given as goal

abbrev pub invariant-depths : goal.invariant-depths
invariant-depths l = record {
  curve : tails l.references l.initial.hits ≡ take l.at l.hits ++ tails l.left (drop l.at l.hits);
  size : length l.hits ≡ length l.initial.hits;
}
