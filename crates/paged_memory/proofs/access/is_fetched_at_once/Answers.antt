use Rattle.page_memory.specs.declared.words.Access.TheVariants.{Fetch}
use Rattle.paged_memory.proofs.access_laws.HitLaws.{marks_hit}
use Rattle.paged_memory.proofs.access.is_fetched_at_once.Goals as goal

pub returns-in-Ok-clause-marked : goal.returns-in-Ok-clause-marked
returns-in-Ok-clause-marked g c = λ _. marks_hit c.args.page c.args.hart _ Fetch c.requires.holds c.requires.hart c.in-Ok.ensures.hits

pub returns-in-Ok-clause-serves : goal.returns-in-Ok-clause-serves
returns-in-Ok-clause-serves g c = λ _. record { place = _; hits = c.in-Ok.ensures.hits }
