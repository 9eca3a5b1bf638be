use Rattle.std.proofs.Common.{◌≡◌, Some, Result, Ok, Err, OnOk, IfErr, ap, refl, sym, ◌∙◌, subst}
use Rattle.page_memory.specs.Entries.{place_of, with_value}
use Rattle.paged_memory.specs.moves.Filling.{IsAbsent, PageCalledOnce, failures_of}
use Rattle.paged_memory.specs.moves.Moving.{ComesIn, RefusesIn}
use Rattle.paged_memory.specs.Paged.{PagedValue, flat_pages, page_at, memory_in, memory_of}
use Rattle.paged_memory.proofs.move_laws.PagedLaws.{page_at-place, page_at-nowhere, called_nowhere, called_placed, failures_placed}
use Rattle.paged_memory.proofs.ConstancyLaws.{SameUnwritten}
use Rattle.paged_memory.proofs.move_laws.FillingLaws.{comes_in, holds_paged_in, memory_paged_in, unwritten_paged_in, pages_brought, pages_refused, entries_brought}
use Rattle.paged_memory.proofs.memory.PagedMemory.page_in.Goals as goal

on_ok : {A E : Type 0} {P Q : Type 0} (result : Result A E) → (P → Q) → OnOk result P → OnOk result Q
on_ok (Ok done) follows passed = follows passed
on_ok (Err refusal) follows passed = tt

pub returns-in_default-clause-refused : goal.returns-in_default-clause-refused
returns-in_default-clause-refused g c = (
  subst (λ (v : PagedValue _). ¬ IsAbsent (page_at v.pages c.args.vpn)) c.self.view_is (λ absent. subst IsAbsent (page_at-nowhere c.self.inside.pages c.args.vpn (sym c.place.ensures.place ∙ c.in_default.is)) absent),
  (refl, refl),
)

pub returns-then-not-is_absent-clause-refused : goal.returns-then-not-is_absent-clause-refused
returns-then-not-is_absent-clause-refused g c =
    let at : place_of c.args.vpn c.self.inside.pages ≡ Some c.in-Some.place = sym c.place.ensures.place ∙ c.in-Some.is in (
      subst (λ (v : PagedValue _). ¬ IsAbsent (page_at v.pages c.args.vpn)) c.self.view_is
          (λ absent. c.if-not-is_absent.ensures.other (subst IsAbsent (page_at-place c.self.inside.pages c.args.vpn c.in-Some.place c.at.result.now at c.at.ensures) absent)),
      (refl, refl),
    )

pub returns-in_default-clause-called : goal.returns-in_default-clause-called
returns-in_default-clause-called g c =
    subst (λ (v : PagedValue _). PageCalledOnce g.S.SwapSlot.called (page_at v.pages c.args.vpn) (page_at v.pages c.args.vpn)) c.self.view_is
    (called_nowhere g.S.SwapSlot.called c.self.inside.pages c.args.vpn (λ absent. subst IsAbsent (page_at-nowhere c.self.inside.pages c.args.vpn (sym c.place.ensures.place ∙ c.in_default.is)) absent))

pub returns-then-not-is_absent-clause-called : goal.returns-then-not-is_absent-clause-called
returns-then-not-is_absent-clause-called g c =
    let at : place_of c.args.vpn c.self.inside.pages ≡ Some c.in-Some.place = sym c.place.ensures.place ∙ c.in-Some.is in
    subst (λ (v : PagedValue _). PageCalledOnce g.S.SwapSlot.called (page_at v.pages c.args.vpn) (page_at v.pages c.args.vpn)) c.self.view_is
    (called_nowhere g.S.SwapSlot.called c.self.inside.pages c.args.vpn
    (λ absent. c.if-not-is_absent.ensures.other (subst IsAbsent (page_at-place c.self.inside.pages c.args.vpn c.in-Some.place c.at.result.now at c.at.ensures) absent)))

pub returns-clause-called : goal.returns-clause-called
returns-clause-called g c =
    let at : place_of c.args.vpn c.self.inside.pages ≡ Some c.in-Some.place = sym c.place.ensures.place ∙ c.in-Some.is in
    let pages = with_value c.self.inside.pages c.in-Some.place c.bring_page_in.new.page in
    subst (λ (v : PagedValue _). PageCalledOnce g.S.SwapSlot.called (page_at v.pages c.args.vpn) (page_at pages c.args.vpn)) c.self.view_is
    (called_placed g.S.SwapSlot.called c.self.inside.pages c.args.vpn c.in-Some.place c.at_mut.result.now c.bring_page_in.new.page at c.at_mut.ensures.value c.bring_page_in.ensures.called)

pub invariant_of-self : goal.invariant_of-self
invariant_of-self g c =
    let at : place_of c.args.vpn c.self.inside.pages ≡ Some c.in-Some.place = sym c.place.ensures.place ∙ c.in-Some.is in
    let pages = with_value c.self.inside.pages c.in-Some.place c.bring_page_in.new.page in
    holds_paged_in g.S.SwapSlot.content g.S.SwapSlot.honest g.S.SwapSlot.failures c.args.frame c.self.inside.pages pages c.self.inside.tables c.bring_page_in.new.tables c.args.vpn c.self.inside.caches c.bring_page_in.result c.requires
    (pages_brought g.S.SwapSlot.content g.S.SwapSlot.honest c.args.frame c.self.inside.pages c.args.vpn c.in-Some.place c.at_mut.result.now c.bring_page_in.new.page at c.at_mut.ensures.value c.bring_page_in.result c.bring_page_in.ensures.ok)
    (pages_refused g.S.SwapSlot.content g.S.SwapSlot.honest c.args.frame c.self.inside.pages c.args.vpn c.in-Some.place c.at_mut.result.now c.bring_page_in.new.page at c.at_mut.ensures.value g.S.SwapSlot.failures c.self.inside.tables c.bring_page_in.result
    c.bring_page_in.ensures.refused)
    (entries_brought c.self.inside.pages c.self.inside.tables c.bring_page_in.new.tables c.args.vpn c.args.frame (page_at-place c.self.inside.pages c.args.vpn c.in-Some.place c.at_mut.result.now at c.at_mut.ensures.value) c.bring_page_in.result
    c.bring_page_in.ensures.entries)
    c.bring_page_in.ensures.tables c.bring_page_in.ensures.unmapped c.self.invariant

pub returns-clause-ok : goal.returns-clause-ok
returns-clause-ok g c =
    let at : place_of c.args.vpn c.self.inside.pages ≡ Some c.in-Some.place = sym c.place.ensures.place ∙ c.in-Some.is in
    let inside : PagedValue _ = record { process = c.self.inside.process; pages = c.self.inside.pages; tables = c.self.inside.tables; caches = c.self.inside.caches; reserved = c.self.inside.reservations } in
    let after : PagedValue _ = record inside { pages = with_value c.self.inside.pages c.in-Some.place c.bring_page_in.new.page; tables = c.bring_page_in.new.tables } in
    let ok = pages_brought g.S.SwapSlot.content g.S.SwapSlot.honest c.args.frame c.self.inside.pages c.args.vpn c.in-Some.place c.at_mut.result.now c.bring_page_in.new.page at c.at_mut.ensures.value c.bring_page_in.result c.bring_page_in.ensures.ok in
    let refused =
    pages_refused g.S.SwapSlot.content g.S.SwapSlot.honest c.args.frame c.self.inside.pages c.args.vpn c.in-Some.place c.at_mut.result.now c.bring_page_in.new.page at c.at_mut.ensures.value g.S.SwapSlot.failures c.self.inside.tables c.bring_page_in.result
    c.bring_page_in.ensures.refused
    in
    subst (λ (v : PagedValue _). OnOk c.bring_page_in.result (ComesIn g.S.SwapSlot.content g.S.SwapSlot.honest c.args.frame c.args.vpn v after)) c.self.view_is
    (comes_in g.S.SwapSlot.content g.S.SwapSlot.honest c.args.frame c.args.vpn inside after c.bring_page_in.result c.requires refl refl refl ok
    (entries_brought c.self.inside.pages c.self.inside.tables c.bring_page_in.new.tables c.args.vpn c.args.frame (page_at-place c.self.inside.pages c.args.vpn c.in-Some.place c.at_mut.result.now at c.at_mut.ensures.value) c.bring_page_in.result
    c.bring_page_in.ensures.entries)
    c.bring_page_in.ensures.tables
    (λ is_honest. ap (λ p. record { pages = p; reserved = c.self.inside.reservations }) (memory_paged_in g.S.SwapSlot.content g.S.SwapSlot.honest g.S.SwapSlot.failures c.args.frame c.self.inside.pages after.pages c.self.inside.tables c.bring_page_in.new.tables c.args.vpn c.bring_page_in.result ok refused is_honest)))

pub returns-clause-passed : goal.returns-clause-passed
returns-clause-passed g c =
    let at : place_of c.args.vpn c.self.inside.pages ≡ Some c.in-Some.place = sym c.place.ensures.place ∙ c.in-Some.is in
    let pages = with_value c.self.inside.pages c.in-Some.place c.bring_page_in.new.page in
    subst (λ (v : PagedValue _). OnOk c.bring_page_in.result (failures_of g.S.SwapSlot.failures (page_at pages c.args.vpn) ≡ failures_of g.S.SwapSlot.failures (page_at v.pages c.args.vpn))) c.self.view_is
    (on_ok c.bring_page_in.result (failures_placed g.S.SwapSlot.failures c.self.inside.pages c.args.vpn c.in-Some.place c.at_mut.result.now c.bring_page_in.new.page at c.at_mut.ensures.value) c.bring_page_in.ensures.passed)

pub returns-clause-refused : goal.returns-clause-refused
returns-clause-refused g c =
    let at : place_of c.args.vpn c.self.inside.pages ≡ Some c.in-Some.place = sym c.place.ensures.place ∙ c.in-Some.is in
    let inside : PagedValue _ = record { process = c.self.inside.process; pages = c.self.inside.pages; tables = c.self.inside.tables; caches = c.self.inside.caches; reserved = c.self.inside.reservations } in
    let after : PagedValue _ = record inside { pages = with_value c.self.inside.pages c.in-Some.place c.bring_page_in.new.page; tables = c.bring_page_in.new.tables } in
    subst (λ (v : PagedValue _). IfErr c.bring_page_in.result (λ back. RefusesIn g.S.SwapSlot.content g.S.SwapSlot.honest g.S.SwapSlot.failures c.args.frame c.args.vpn back.0 back.1 v after)) c.self.view_is
    (pages_refused g.S.SwapSlot.content g.S.SwapSlot.honest c.args.frame c.self.inside.pages c.args.vpn c.in-Some.place c.at_mut.result.now c.bring_page_in.new.page at c.at_mut.ensures.value g.S.SwapSlot.failures c.self.inside.tables c.bring_page_in.result
    c.bring_page_in.ensures.refused)

pub returns-clause-memory : goal.returns-clause-memory
returns-clause-memory g c is_honest =
    let at : place_of c.args.vpn c.self.inside.pages ≡ Some c.in-Some.place = sym c.place.ensures.place ∙ c.in-Some.is in
    let pages = with_value c.self.inside.pages c.in-Some.place c.bring_page_in.new.page in
    subst (λ v. memory_in g.S.SwapSlot.content pages c.self.inside.reservations ≡ memory_of g.S.SwapSlot.content v) c.self.view_is
    (ap (λ p. record { pages = p; reserved = c.self.inside.reservations }) (memory_paged_in g.S.SwapSlot.content g.S.SwapSlot.honest g.S.SwapSlot.failures c.args.frame c.self.inside.pages pages c.self.inside.tables c.bring_page_in.new.tables c.args.vpn c.bring_page_in.result
    (pages_brought g.S.SwapSlot.content g.S.SwapSlot.honest c.args.frame c.self.inside.pages c.args.vpn c.in-Some.place c.at_mut.result.now c.bring_page_in.new.page at c.at_mut.ensures.value c.bring_page_in.result c.bring_page_in.ensures.ok)
    (pages_refused g.S.SwapSlot.content g.S.SwapSlot.honest c.args.frame c.self.inside.pages c.args.vpn c.in-Some.place c.at_mut.result.now c.bring_page_in.new.page at c.at_mut.ensures.value g.S.SwapSlot.failures c.self.inside.tables c.bring_page_in.result
    c.bring_page_in.ensures.refused)
    is_honest))

pub returns-clause-read_only : goal.returns-clause-read_only
returns-clause-read_only g c =
    let at : place_of c.args.vpn c.self.inside.pages ≡ Some c.in-Some.place = sym c.place.ensures.place ∙ c.in-Some.is in
    let pages = with_value c.self.inside.pages c.in-Some.place c.bring_page_in.new.page in
    subst (λ v. SameUnwritten (memory_of g.S.SwapSlot.content v).pages (flat_pages g.S.SwapSlot.content pages)) c.self.view_is
    (unwritten_paged_in g.S.SwapSlot.content g.S.SwapSlot.honest g.S.SwapSlot.failures c.args.frame c.self.inside.pages pages c.self.inside.tables c.bring_page_in.new.tables c.args.vpn c.self.inside.caches c.bring_page_in.result c.requires
    (pages_brought g.S.SwapSlot.content g.S.SwapSlot.honest c.args.frame c.self.inside.pages c.args.vpn c.in-Some.place c.at_mut.result.now c.bring_page_in.new.page at c.at_mut.ensures.value c.bring_page_in.result c.bring_page_in.ensures.ok)
    (pages_refused g.S.SwapSlot.content g.S.SwapSlot.honest c.args.frame c.self.inside.pages c.args.vpn c.in-Some.place c.at_mut.result.now c.bring_page_in.new.page at c.at_mut.ensures.value g.S.SwapSlot.failures c.self.inside.tables c.bring_page_in.result
    c.bring_page_in.ensures.refused)
    (entries_brought c.self.inside.pages c.self.inside.tables c.bring_page_in.new.tables c.args.vpn c.args.frame (page_at-place c.self.inside.pages c.args.vpn c.in-Some.place c.at_mut.result.now at c.at_mut.ensures.value) c.bring_page_in.result
    c.bring_page_in.ensures.entries)
    c.bring_page_in.ensures.tables c.self.invariant)
