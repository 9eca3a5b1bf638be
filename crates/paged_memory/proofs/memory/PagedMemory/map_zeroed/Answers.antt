use Rattle.std.proofs.Common.{◌≡◌, subst, OnOk}
use Rattle.page_memory.specs.Memory.{with_zeroed}
use Rattle.paged_memory.specs.Paged.{memory_in, memory_of}
use Rattle.paged_memory.proofs.GrowthLaws.{holds_grown, memory_grown_with}
use Rattle.paged_memory.proofs.memory.PagedMemory.map_zeroed.Goals as goal

pub invariant_of-self : goal.invariant_of-self
invariant_of-self g c =
    holds_grown c.add_zeroed.result c.self.inside.pages c.add_zeroed.new.self c.args.first c.args.count c.requires c.add_zeroed.ensures.ok c.add_zeroed.ensures.err c.self.invariant

pub returns-clause-memory : goal.returns-clause-memory
returns-clause-memory g c =
    subst (λ v. OnOk c.add_zeroed.result (memory_in g.S.SwapSlot.content c.add_zeroed.new.self c.self.inside.reservations ≡ with_zeroed c.args.first c.args.count (memory_of g.S.SwapSlot.content v))) c.self.view_is
    (memory_grown_with g.S.SwapSlot.content c.self.inside.reservations c.add_zeroed.result c.self.inside.pages c.add_zeroed.new.self c.args.first c.args.count c.add_zeroed.ensures.ok)
