use Rattle.std.proofs.Common.{sym, ap, ◌∙◌, subst}
use Rattle.page_memory.specs.declared.words.Access.TheVariants.{Load}
use Rattle.page_memory.proofs.MemoryLaws.{reserved_of}
use Rattle.page_memory.specs.Reservations.{with_reserved}
use Rattle.page_memory.specs.Words.{page_number}
use Rattle.paged_memory.specs.access.Access.{LacksPage, MarksUse, cache_of}
use Rattle.paged_memory.specs.access.HartMemory.{InTurn}
use Rattle.paged_memory.specs.Paged.{PagedValue, memory_of, flat_pages}
use Rattle.paged_memory.proofs.access_laws.ReservationLaws.{reserve_refused}
use Rattle.paged_memory.proofs.hart_memory.HartMemoryBus.load_reserved.Goals as goal

pub returns-in-Ok-clause-answer : goal.returns-in-Ok-clause-answer
returns-in-Ok-clause-answer g c =
    let before : PagedValue _ = c.args.self.now.memory.now in
    let loaded : PagedValue _ = c.load.new.self.memory.now in
    let reads = c.in-Ok.ensures.reads in (
      reserved_of (memory_of g.S.SwapSlot.content before) c.args.hart c.args.address c.in-Ok.word (flat_pages g.S.SwapSlot.content c.memory.inside.pages) c.reserve.new.self c.in-Ok.ensures.answer.0
          (ap (λ (m : PagedValue _). flat_pages g.S.SwapSlot.content m.pages) c.memory.view_is ∙ ap (flat_pages g.S.SwapSlot.content) reads.pages)
          (c.reserve.ensures ∙ ap (λ (m : PagedValue _). with_reserved c.args.hart c.args.address m.reserved) c.memory.view_is ∙ ap (with_reserved c.args.hart c.args.address) reads.reserved),
      (
        c.in-Ok.ensures.answer.1.0,
        subst (λ (m : PagedValue _). MarksUse before.pages m.tables (cache_of before.caches c.args.self.now.hart) Load (page_number c.args.address)) (sym c.memory.view_is) c.in-Ok.ensures.answer.1.1,
      ),
    )

pub returns-in-Err-clause-answer : goal.returns-in-Err-clause-answer
returns-in-Err-clause-answer g c =
    let before : PagedValue _ = c.args.self.now.memory.now in
    reserve_refused (LacksPage before.pages) (memory_of g.S.SwapSlot.content before) c.args.address c.in-Err.refusal c.args.hart c.in-Err.ensures.answer

pub invariant_of-self : goal.invariant_of-self
invariant_of-self g c =
    let turn = subst (InTurn c.load.new.self.hart g.O.Opening.opening) (sym c.memory.view_is) c.load.new.self.in_turn in
    record { in_turn = record { started = turn.started; doomed = turn.doomed; filled = turn.filled; marked = turn.marked } }
