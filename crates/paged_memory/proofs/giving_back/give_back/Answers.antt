use Rattle.paged_memory.proofs.move_laws.GivingBackLaws.{entries_blank, holds_given_back}
use Rattle.paged_memory.proofs.giving_back.give_back.Goals as goal

pub returns-clause-holds : goal.returns-clause-holds
returns-clause-holds g c = holds_given_back _ c.args.vpn c.requires.vpn c.requires.holds c.unmap.ensures.entries c.take-given.ensures c.unmap.ensures.tables c.requires.quiet

pub returns-clause-entries : goal.returns-clause-entries
returns-clause-entries g c = entries_blank _ c.args.vpn c.requires.vpn c.requires.holds c.unmap.ensures.entries
