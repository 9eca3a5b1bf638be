use Rattle.std.proofs.Common.{take}
use Rattle.std.specs.Io.KnownBytes.{Appends}
use Rattle.run_records.proofs.TurnTexts.{turns_text}
use Rattle.run_records.proofs.writing.write_turns.Given as goal

-- The turns before the next one are written.
abbrev pub invariant-turns : goal.invariant-turns
invariant-turns g l = Appends (g.W.Write.contents l.initial.out) (g.W.Write.contents l.out) (turns_text (take l.turn-index l.turns))
