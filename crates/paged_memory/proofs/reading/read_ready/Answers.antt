use Rattle.paged_memory.proofs.move_laws.LentLaws.{uses_lent}
use Rattle.paged_memory.proofs.reading.read_ready.Goals as goal

pub returns-in-Some-clause-bytes : goal.returns-in-Some-clause-bytes
returns-in-Some-clause-bytes g c =
    uses_lent g.S.SwapSlot.content c.args.pages.now c.args.tables.now c.args.address c.in-Some.spot.place c.in-Some.ensures.reaches c.at.result.now c.at.ensures c.bytes_of.result.now c.bytes_of.ensures.bytes
