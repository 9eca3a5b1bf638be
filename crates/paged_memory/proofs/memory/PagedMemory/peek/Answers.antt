use Rattle.std.proofs.Common.{◌≡◌, Some, ap, subst}
use Rattle.std.specs.Prelude.{OnOk, length}
use Rattle.page_memory.specs.Words.{page_number}
use Rattle.paged_memory.specs.moves.Filling.{PageCalledOnce, failures_of}
use Rattle.paged_memory.specs.Paged.{PagedValue, flat_pages, page_at, memory_in, memory_of}
use Rattle.paged_memory.specs.Peeking.{bytes_of}
use Rattle.paged_memory.proofs.ConstancyLaws.{SameUnwritten}
use Rattle.paged_memory.proofs.PeekingLaws.{holds_peeked, memory_peeked, unwritten_peeked, bytes_shown}
use Rattle.paged_memory.proofs.memory.PagedMemory.peek.Goals as goal

pub invariant_of-self : goal.invariant_of-self
invariant_of-self g c =
    holds_peeked g.S.SwapSlot.content g.S.SwapSlot.honest c.self.inside.pages c.read_page.new.pages c.self.inside.tables c.self.inside.caches c.page_of.result (page_at c.self.inside.pages c.page_of.result) c.page_of.ensures.small c.read_page.ensures.left c.self.invariant

pub returns-clause-shown : goal.returns-clause-shown
returns-clause-shown g c is_honest =
    subst (λ v. OnOk c.read_page.result (bytes_of (memory_of g.S.SwapSlot.content v) c.args.address (length c.args.bytes.now) ≡ Some c.read_page.new.bytes)) c.self.view_is
    (bytes_shown g.S.SwapSlot.content g.S.SwapSlot.honest c.self.inside.pages c.self.inside.reservations c.args.address c.page_of.result c.offset_in_page.result (length c.args.bytes.now) c.read_page.new.bytes c.read_page.result c.page_of.ensures.number
    c.offset_in_page.ensures.offset c.read_page.ensures.bytes is_honest)

pub returns-clause-memory : goal.returns-clause-memory
returns-clause-memory g c is_honest =
    subst (λ v. memory_in g.S.SwapSlot.content c.read_page.new.pages c.self.inside.reservations ≡ memory_of g.S.SwapSlot.content v) c.self.view_is
    (ap (λ p. record { pages = p; reserved = c.self.inside.reservations }) (memory_peeked g.S.SwapSlot.content g.S.SwapSlot.honest c.self.inside.pages c.read_page.new.pages c.page_of.result (page_at c.self.inside.pages c.page_of.result) c.read_page.ensures.left is_honest))

pub returns-clause-read_only : goal.returns-clause-read_only
returns-clause-read_only g c =
    subst (λ v. SameUnwritten (memory_of g.S.SwapSlot.content v).pages (flat_pages g.S.SwapSlot.content c.read_page.new.pages)) c.self.view_is
    (unwritten_peeked g.S.SwapSlot.content g.S.SwapSlot.honest c.self.inside.pages c.read_page.new.pages c.self.inside.tables c.self.inside.caches c.page_of.result (page_at c.self.inside.pages c.page_of.result) c.page_of.ensures.small c.read_page.ensures.left c.self.invariant)

pub returns-clause-passed : goal.returns-clause-passed
returns-clause-passed g c =
    subst (λ (v : PagedValue _). OnOk c.read_page.result (failures_of g.S.SwapSlot.failures (page_at c.read_page.new.pages (page_number c.args.address)) ≡ failures_of g.S.SwapSlot.failures (page_at v.pages (page_number c.args.address)))) c.self.view_is
    (subst (λ n. OnOk c.read_page.result (failures_of g.S.SwapSlot.failures (page_at c.read_page.new.pages n) ≡ failures_of g.S.SwapSlot.failures (page_at c.self.inside.pages n))) c.page_of.ensures.number c.read_page.ensures.passed)

pub returns-clause-called : goal.returns-clause-called
returns-clause-called g c =
    subst (λ (v : PagedValue _). PageCalledOnce g.S.SwapSlot.called (page_at v.pages (page_number c.args.address)) (page_at c.read_page.new.pages (page_number c.args.address))) c.self.view_is
    (subst (λ n. PageCalledOnce g.S.SwapSlot.called (page_at c.self.inside.pages n) (page_at c.read_page.new.pages n)) c.page_of.ensures.number c.read_page.ensures.called)
