use Rattle.std.proofs.Common.{◌≡◌, drop}
use Rattle.miss_counts.specs.FrameNumbers.{has_part}
use Rattle.miss_counts.proofs.table_size.has_part.Given as goal

abbrev pub invariant-sizes : goal.invariant-sizes
invariant-sizes l = has_part l.sizes ≡ has_part (drop l.size-index l.sizes)
