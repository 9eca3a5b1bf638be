use Rattle.std.proofs.Common.{take}
use Rattle.record_commands.specs.Rows.{AreUnlike}
use Rattle.record_commands.proofs.table.place_of.Given as goal

-- The rows before the next one are unlike.
abbrev pub invariant-rows : goal.invariant-rows
invariant-rows l = AreUnlike l.closing (take l.place l.rows)
