use Rattle.std.proofs.Common.{◌≡◌, ap, subst}
use Rattle.paged_memory.specs.Paged.{memory_in, memory_of}
use Rattle.paged_memory.proofs.cleaning_laws.CleaningLaws.{holds_begun, memory_begun}
use Rattle.paged_memory.proofs.memory.PagedMemory.begin_clean.Goals as goal

pub invariant_of-self-2 : goal.invariant_of-self-2
invariant_of-self-2 g c =
    rw c.doom.ensures (holds_begun c.clear_dirty.new.self c.args.vpn c.requires c.self.invariant c.args.ended c.is_dirty-dirty.result c.is_dirty-dirty.ensures c.in_ok-begin_page.ensures.ok c.clear_dirty.ensures.entries c.clear_dirty.ensures.tables)

pub returns-clause-memory : goal.returns-clause-memory
returns-clause-memory g c =
    subst (λ v. memory_in g.S.SwapSlot.content c.begin_page.new.pages c.self.inside.reservations ≡ memory_of g.S.SwapSlot.content v) c.self.view_is
    (ap (λ p. record { pages = p; reserved = c.self.inside.reservations }) (memory_begun c.clear_dirty.new.self c.args.vpn c.requires c.self.invariant c.args.ended c.is_dirty-dirty.result c.is_dirty-dirty.ensures c.in_ok-begin_page.ensures.ok c.clear_dirty.ensures.entries c.clear_dirty.ensures.tables))
