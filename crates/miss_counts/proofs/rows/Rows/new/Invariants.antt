use Rattle.std.proofs.Common.{[], take}
use Rattle.std.specs.List.{AllZip}
use Rattle.miss_counts.specs.Replayed.{HasPlayed}
use Rattle.miss_counts.proofs.rows.Rows.new.Given as goal

abbrev pub invariant-frames : goal.invariant-frames
invariant-frames l = AllZip (HasPlayed l.policies [] []) (take l.at l.frames) l.rows.items
