use Rattle.std.proofs.Common.{◌≡◌, map, take}
use Rattle.miss_counts.specs.FrameNumbers.{frames_for}
use Rattle.miss_counts.proofs.table_size.frames_for.Given as goal

abbrev pub invariant-sizes : goal.invariant-sizes
invariant-sizes l = map (λ f. f.number) l.all.items ≡ map (frames_for l.pages) (take l.size-index l.sizes)
