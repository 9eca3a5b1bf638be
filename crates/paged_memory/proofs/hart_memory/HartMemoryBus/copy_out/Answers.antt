use Rattle.std.proofs.Common.{arith}
use Rattle.paged_memory.proofs.access_laws.OnePageLaws.{uses_refused}
use Rattle.paged_memory.proofs.WholeLaws.{reads_whole, turn_goes_on}
use Rattle.paged_memory.proofs.hart_memory.HartMemoryBus.copy_out.Goals as goal

pub returns-in-Err-clause-reads : goal.returns-in-Err-clause-reads
returns-in-Err-clause-reads g c =
    let fits = c.ranges.address.fits in
    reads_whole c.args.self.now.hart c.memory.view_is (omega arith) (uses_refused c.in-Err.ensures.uses)

pub invariant_of-self : goal.invariant_of-self
invariant_of-self g c = record { in_turn = turn_goes_on c.args.self.now.hart c.memory.view_is c.args.self.now.in_turn c.read.ensures.uses.kept }
