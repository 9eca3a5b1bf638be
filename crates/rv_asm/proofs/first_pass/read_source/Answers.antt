use Rattle.rv_asm.proofs.FirstLoops.{lines_refuse}
use Rattle.rv_asm.proofs.first_pass.read_source.Goals as goal

pub returns-in-Err-clause-refusal : goal.returns-in-Err-clause-refusal
returns-in-Err-clause-refusal c =
    rw c.on_line.ensures
    (lines_refuse c.loop-text.line c.loop-text.program _ _ _ _ c.in-Err.refusal c.in-Some.ensures.lines c.loop-text.invariant.same c.in-Err.ensures.refusal)
