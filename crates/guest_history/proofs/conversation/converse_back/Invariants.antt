use Rattle.std.specs.Io.Buffered.{reader_remaining}
use Rattle.guest_history.specs.Histories.{IsSameRun, Stands}
use Rattle.guest_history.proofs.Conversed.{HasPassed}
use Rattle.guest_history.proofs.conversation.converse_back.Given as goal

abbrev pub invariant-lines : goal.invariant-lines
invariant-lines g l = record {
  stands : Stands l.history;
  same : IsSameRun l.fn.history l.history;
  passed : HasPassed (g.I.Read.remaining l.fn.input) (reader_remaining g.I.Read.remaining l.reader) l.fn.history (g.O.Write.contents l.fn.out) l.history (g.O.Write.contents l.out) l.above;
}
