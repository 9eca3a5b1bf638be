use Rattle.std.proofs.Common.{◌≡◌, refl, sym, ap, ◌∙◌, subst}
use Rattle.std.specs.Prelude.{Ok}
use Rattle.page_memory.specs.Memory.{stored}
use Rattle.page_memory.proofs.MemoryLaws.{stored_of}
use Rattle.page_memory.specs.Words.{bytes_in}
use Rattle.page_memory.proofs.Reserving.{nothing_left}
use Rattle.paged_memory.specs.Paged.{PagedValue, memory_in, memory_of}
use Rattle.paged_memory.specs.access.Ready.{KeepsReady}
use Rattle.paged_memory.proofs.access_laws.ReadyLaws.{ready_written}
use Rattle.page_memory.specs.Words.{page_number}
use Rattle.paged_memory.proofs.ready.PagedMemoryReadyMemory.ready_store.Goals as goal

pub returns-clause-done : goal.returns-clause-done
returns-clause-done g c = λ is.
    let after = memory_in g.S.SwapSlot.content c.store_ready-is_stored.new.pages c.self.inside.reservations in
    subst (λ v. stored (memory_of g.S.SwapSlot.content v) c.args.width c.args.address c.args.word ≡ Ok after) c.self.view_is
    (stored_of (memory_in g.S.SwapSlot.content c.self.inside.pages c.self.inside.reservations) c.args.width c.args.address c.args.word _ (c.store_ready-is_stored.ensures.stored is)
    ∙ ap (λ r. Ok (memory_in g.S.SwapSlot.content c.store_ready-is_stored.new.pages r)) (sym (nothing_left c.args.address (bytes_in c.args.width) c.self.inside.reservations (c.any.ensures c.if-any.false))))

pub returns-clause-stayed : goal.returns-clause-stayed
returns-clause-stayed g c = λ is.
    let inside : PagedValue _ = record { process = c.self.inside.process; pages = c.self.inside.pages; tables = c.self.inside.tables; caches = c.self.inside.caches; reserved = c.self.inside.reservations } in
    let after : PagedValue _ = record inside { pages = c.store_ready-is_stored.new.pages } in
    subst (λ (v : PagedValue _). KeepsReady g.S.SwapSlot.content g.S.SwapSlot.honest c.args.hart v after) c.self.view_is
    (ready_written c.args.hart (page_number c.args.address) inside after refl (c.store_ready-is_stored.ensures.bare is) (c.store_ready-is_stored.ensures.takes is)
    (record { agree = c.coherent.ensures.agree; accessed = c.coherent.ensures.accessed; framed = c.coherent.ensures.framed; unmarked = c.coherent.ensures.unmarked; walks = c.coherent.ensures.walks }))
