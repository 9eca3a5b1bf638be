use Rattle.std.proofs.Common.{arith, sym, subst}
use Rattle.page_memory.specs.declared.words.Access.TheVariants.{Fetch}
use Rattle.page_memory.specs.Words.{page_number}
use Rattle.paged_memory.specs.access.Accesses.{Reads}
use Rattle.paged_memory.specs.Paged.{PagedValue}
use Rattle.paged_memory.proofs.WholeLaws.{reads_whole, turn_goes_on}
use Rattle.paged_memory.proofs.hart_memory.HartMemoryBus.fetch.Goals as goal

pub returns-in-None-clause-reads : goal.returns-in-None-clause-reads
returns-in-None-clause-reads g c =
    let fits = c.ranges.address.fits in
    let after : PagedValue _ = record { process = c.memory.inside.process; pages = c.memory.inside.pages; tables = c.fetch_anew.new.tables; caches = c.fetch_anew.new.caches; reserved = c.memory.inside.reservations } in
    subst (λ r. Reads c.args.self.now.hart Fetch (page_number c.args.address) r c.args.self.now.memory.now after) (sym c.answer.ensures) (reads_whole c.args.self.now.hart c.memory.view_is (omega arith) c.fetch_anew.ensures.uses)

pub invariant_of-self-in-None : goal.invariant_of-self-in-None
invariant_of-self-in-None g c = record { in_turn = turn_goes_on c.args.self.now.hart c.memory.view_is c.args.self.now.in_turn c.fetch_anew.ensures.uses.kept }
