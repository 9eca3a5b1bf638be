use Rattle.std.proofs.Common.{◌≡◌, ap, subst}
use Rattle.paged_memory.specs.cleaning.Cleaning.{CopiesAt}
use Rattle.paged_memory.specs.Paged.{page_at, memory_in, memory_of}
use Rattle.paged_memory.proofs.cleaning_laws.CleaningLaws.{holds_copied, memory_copied}
use Rattle.paged_memory.proofs.memory.PagedMemory.copy_clean.Goals as goal

pub invariant_of-self : goal.invariant_of-self
invariant_of-self g c =
    let pages = c.self.inside.pages in
    let told = subst (λ marked. CopiesAt c.self.inside.process c.args.vpn c.is_dirty-dirty.result marked c.args.spare.now c.copy_page.new.spare c.copy_page.result pages c.copy_page.new.pages (page_at pages c.args.vpn)) c.is_marked-marked.ensures c.copy_page.ensures.answer in
    holds_copied c.self.inside.process c.args.vpn c.requires c.self.invariant c.is_dirty-dirty.result c.args.spare.now c.copy_page.new.spare c.copy_page.result (page_at pages c.args.vpn) told

pub returns-clause-memory : goal.returns-clause-memory
returns-clause-memory g c =
    let pages = c.self.inside.pages in
    let told = subst (λ marked. CopiesAt c.self.inside.process c.args.vpn c.is_dirty-dirty.result marked c.args.spare.now c.copy_page.new.spare c.copy_page.result pages c.copy_page.new.pages (page_at pages c.args.vpn)) c.is_marked-marked.ensures c.copy_page.ensures.answer in
    subst (λ v. memory_in g.S.SwapSlot.content c.copy_page.new.pages c.self.inside.reservations ≡ memory_of g.S.SwapSlot.content v) c.self.view_is
    (ap (λ p. record { pages = p; reserved = c.self.inside.reservations }) (memory_copied c.self.inside.process c.args.vpn c.requires c.self.invariant c.is_dirty-dirty.result c.args.spare.now c.copy_page.new.spare c.copy_page.result c.copy_page.new.pages (page_at pages c.args.vpn) told))
