use Rattle.std.specs.Prelude.{Option, Some, None, IfSome}
use Rattle.page_memory.specs.Words.{page_number}
use Rattle.tlb_core.specs.declared.tlb.Spot.{Spot}
use Rattle.paged_memory.proofs.access_laws.HitLaws.{reaches_hit, marks_hit}
use Rattle.paged_memory.proofs.access.at_hand.Goals as goal

where_some : {P Q : Spot → Type 0} (o : Option Spot) → ((spot : Spot) → P spot → Q spot) → IfSome o P → IfSome o Q
where_some (Some spot) step is = step spot is
where_some None step is = is

pub returns-clause-reaches : goal.returns-clause-reaches
returns-clause-reaches g c =
    where_some c.ready.result (λ spot hits. reaches_hit (page_number c.args.address) c.args.hart spot.place c.args.access c.requires.holds c.requires.hart hits) c.ready.ensures.hits

pub returns-clause-serves : goal.returns-clause-serves
returns-clause-serves g c = where_some c.ready.result (λ spot hits. record { place = spot.place; hits = hits }) c.ready.ensures.hits

pub returns-clause-marked : goal.returns-clause-marked
returns-clause-marked g c =
    where_some c.ready.result (λ spot hits. marks_hit (page_number c.args.address) c.args.hart spot.place c.args.access c.requires.holds c.requires.hart hits) c.ready.ensures.hits
