use Rattle.paged_memory.proofs.move_laws.LentLaws.{uses_lent}
use Rattle.paged_memory.proofs.access_laws.ReadLaws.{refuses}
use Rattle.paged_memory.proofs.reading.read.Goals as goal

pub returns-in-Err-clause-refused : goal.returns-in-Err-clause-refused
returns-in-Err-clause-refused g c = refuses g.S.SwapSlot.content c.args.pages.now c.args.access c.args.address c.in-Err.refusal c.in-Err.ensures.reached.refused

pub returns-in-Ok-clause-bytes : goal.returns-in-Ok-clause-bytes
returns-in-Ok-clause-bytes g c =
    uses_lent g.S.SwapSlot.content c.args.pages.now c.reach.new.tables c.args.address c.in-Ok.place c.in-Ok.ensures.reached.reaches c.at.result.now c.at.ensures c.bytes_of.result.now c.bytes_of.ensures.bytes
