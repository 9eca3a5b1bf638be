use Rattle.std.proofs.Common.{take}
use Rattle.std.specs.List.{AllZip}
use Rattle.miss_counts.specs.Counted.{IsRow}
use Rattle.miss_counts.proofs.counts.count_rows.Given as goal

abbrev pub invariant-frames : goal.invariant-frames
invariant-frames g l = AllZip (IsRow l.wanted l.string) (take l.at l.frames) l.rows.items
