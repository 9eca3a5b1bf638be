use Rattle.debug_session.specs.InputLines.{known_bytes}
use Rattle.debug_session.proofs.Passed.{HasPassed}
use Rattle.debug_session.proofs.conversation.converse.Given as goal

abbrev pub invariant-lines : goal.invariant-lines
invariant-lines g l = HasPassed l.dialect g.T.Target.shown g.T.Target.limits (g.I.Read.remaining l.fn.input) (known_bytes g.I.Read.remaining l.lines) l.fn.debugger
    (g.O.Write.contents l.fn.out) l.debugger (g.O.Write.contents l.out) l.above
