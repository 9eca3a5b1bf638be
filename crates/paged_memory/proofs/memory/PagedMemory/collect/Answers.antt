use Rattle.std.proofs.Common.{◌≡◌, ap, subst}
use Rattle.paged_memory.specs.moves.Leaving.{CollectsAt}
use Rattle.paged_memory.specs.Paged.{flat_pages, page_at, memory_in, memory_of}
use Rattle.paged_memory.proofs.ConstancyLaws.{SameUnwritten}
use Rattle.paged_memory.proofs.move_laws.CollectingLaws.{holds_collected, memory_collected, unwritten_collected}
use Rattle.paged_memory.proofs.memory.PagedMemory.collect.Goals as goal

pub invariant_of-self : goal.invariant_of-self
invariant_of-self g c =
    let pages = c.self.inside.pages in
    let told = subst (λ cached. CollectsAt c.self.inside.process c.args.vpn cached c.args.spare.now c.collect_page.new.spare c.collect_page.result pages c.collect_page.new.pages (page_at pages c.args.vpn)) c.is_held-cached.ensures c.collect_page.ensures.answer in
    holds_collected c.self.inside.process c.args.vpn c.args.spare.now c.collect_page.new.spare c.collect_page.result c.requires c.self.invariant (page_at pages c.args.vpn) told

pub returns-clause-memory : goal.returns-clause-memory
returns-clause-memory g c =
    let pages = c.self.inside.pages in
    let told = subst (λ cached. CollectsAt c.self.inside.process c.args.vpn cached c.args.spare.now c.collect_page.new.spare c.collect_page.result pages c.collect_page.new.pages (page_at pages c.args.vpn)) c.is_held-cached.ensures c.collect_page.ensures.answer in
    λ is_honest. subst (λ v. memory_in g.S.SwapSlot.content c.collect_page.new.pages c.self.inside.reservations ≡ memory_of g.S.SwapSlot.content v) c.self.view_is
    (ap (λ p. record { pages = p; reserved = c.self.inside.reservations }) (memory_collected c.self.inside.process c.args.vpn c.args.spare.now c.collect_page.new.spare c.collect_page.result c.requires c.self.invariant c.collect_page.new.pages (page_at pages c.args.vpn) told is_honest))

pub returns-clause-read_only : goal.returns-clause-read_only
returns-clause-read_only g c =
    let pages = c.self.inside.pages in
    let told = subst (λ cached. CollectsAt c.self.inside.process c.args.vpn cached c.args.spare.now c.collect_page.new.spare c.collect_page.result pages c.collect_page.new.pages (page_at pages c.args.vpn)) c.is_held-cached.ensures c.collect_page.ensures.answer in
    subst (λ v. SameUnwritten (memory_of g.S.SwapSlot.content v).pages (flat_pages g.S.SwapSlot.content c.collect_page.new.pages)) c.self.view_is
    (unwritten_collected c.self.inside.process c.args.vpn c.args.spare.now c.collect_page.new.spare c.collect_page.result c.requires c.self.invariant c.collect_page.new.pages (page_at pages c.args.vpn) told)
