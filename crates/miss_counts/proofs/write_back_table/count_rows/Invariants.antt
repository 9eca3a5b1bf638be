use Rattle.std.proofs.Common.{take}
use Rattle.std.specs.List.{AllZip}
use Rattle.miss_counts.specs.WrittenBack.{IsWrittenBack}
use Rattle.miss_counts.proofs.write_back_table.count_rows.Given as goal

abbrev pub invariant-frames : goal.invariant-frames
invariant-frames g l = AllZip (IsWrittenBack l.policies l.string) (take l.at l.frames) l.rows.items
