use Rattle.std.proofs.Common.{take}
use Rattle.std.specs.List.{flat_map}
use Rattle.std.specs.Io.KnownBytes.{Appends}
use Rattle.record_commands.specs.Tables.{row_text}
use Rattle.record_commands.proofs.table_text.write_lines.Given as goal

-- The rows before the next one are written.
abbrev pub invariant-rows : goal.invariant-rows
invariant-rows g l = Appends (g.O.Write.contents l.initial.out) (g.O.Write.contents l.out) (flat_map row_text (take l.row-index l.rows))
