use Rattle.std.proofs.Common.{rules}
use Rattle.tlb_core.proofs.ReadyLaws.{nothing_ready}
use Rattle.tlb_core.proofs.tlb.Tlb.new.Goals as goal

pub invariant_of-result : goal.invariant_of-result
invariant_of-result c = record { one = search rules; shows = nothing_ready c.new.result c.new-3.result c.new-3.ensures; counted = search rules }
