use Rattle.rv_asm.proofs.Places.{counted_none}
use Rattle.rv_asm.proofs.program.Program.new.Goals as goal

pub invariant_of-result : goal.invariant_of-result
invariant_of-result c = counted_none _ _ c.new.ensures.items c.new-2.ensures.empty
