use Rattle.std.proofs.Common.{◌≡◌, ◌<◌, ◌^◌, Some, None, IfErr, IfOk, refl, arith, sym, ap, ◌∙◌, subst}
use Rattle.page_memory.specs.Entries.{place_of, with_value}
use Rattle.paged_memory.specs.moves.Leaving.{IsOut}
use Rattle.paged_memory.specs.moves.Moving.{IsNotSaved, SavedAway}
use Rattle.paged_memory.specs.Paged.{PagedValue, flat_pages, memory_in, memory_of}
use Rattle.paged_memory.proofs.ConstancyLaws.{SameUnwritten}
use Rattle.paged_memory.proofs.move_laws.SavingLaws.{holds_saved, unwritten_saved, out_nowhere, freed_there, refused_there, memory_there, saved_away}
use Rattle.paged_memory.proofs.memory.PagedMemory.saved.Goals as goal

pub returns-in_default-clause-refused : goal.returns-in_default-clause-refused
returns-in_default-clause-refused g c =
    let none : place_of c.args.job.vpn c.self.inside.pages ≡ None = ap (λ v. place_of v c.self.inside.pages) (sym c.vpn-vpn.ensures) ∙ sym c.place.ensures.place ∙ c.in_default.is in
    (refl, (refl, subst (λ (v : PagedValue _). ¬ IsOut v.process c.args.job v.pages) c.self.view_is (out_nowhere c.self.inside.process c.args.job c.self.inside.pages none)))

pub invariant_of-self : goal.invariant_of-self
invariant_of-self g c =
    let at : place_of c.args.job.vpn c.self.inside.pages ≡ Some c.in-Some.place = ap (λ v. place_of v c.self.inside.pages) (sym c.vpn-vpn.ensures) ∙ sym c.place.ensures.place ∙ c.in-Some.is in
    let its : c.args.job.process ≡ c.self.inside.process = cc in
    let small : c.args.job.vpn < 2 ^ 20 = omega arith in
    holds_saved c.self.invariant c.self.inside.process c.args.job c.saved_in.result
    (freed_there c.self.inside.process c.args.job c.self.inside.pages c.in-Some.place c.at_mut.result.now c.saved_in.new.self at c.at_mut.ensures.value c.saved_in.ensures.origin c.saved_in.result its small c.saved_in.ensures.freed)
    (refused_there c.self.inside.process c.args.job c.self.inside.pages c.in-Some.place c.at_mut.result.now c.saved_in.new.self at c.at_mut.ensures.value c.saved_in.ensures.origin c.saved_in.result its small c.saved_in.ensures.refused)

pub returns-clause-freed : goal.returns-clause-freed
returns-clause-freed g c =
    let at : place_of c.args.job.vpn c.self.inside.pages ≡ Some c.in-Some.place = ap (λ v. place_of v c.self.inside.pages) (sym c.vpn-vpn.ensures) ∙ sym c.place.ensures.place ∙ c.in-Some.is in
    let its : c.args.job.process ≡ c.self.inside.process = cc in
    let small : c.args.job.vpn < 2 ^ 20 = omega arith in
    let inside : PagedValue _ = record { process = c.self.inside.process; pages = c.self.inside.pages; tables = c.self.inside.tables; caches = c.self.inside.caches; reserved = c.self.inside.reservations } in
    let after : PagedValue _ = record inside { pages = with_value c.self.inside.pages c.in-Some.place c.saved_in.new.self } in
    subst (λ (v : PagedValue _). IfOk c.saved_in.result (λ frame. SavedAway c.args.job frame v after)) c.self.view_is
    (saved_away inside after c.args.job c.saved_in.result refl
    (freed_there c.self.inside.process c.args.job c.self.inside.pages c.in-Some.place c.at_mut.result.now c.saved_in.new.self at c.at_mut.ensures.value c.saved_in.ensures.origin c.saved_in.result its small c.saved_in.ensures.freed))

pub returns-clause-refused : goal.returns-clause-refused
returns-clause-refused g c =
    let at : place_of c.args.job.vpn c.self.inside.pages ≡ Some c.in-Some.place = ap (λ v. place_of v c.self.inside.pages) (sym c.vpn-vpn.ensures) ∙ sym c.place.ensures.place ∙ c.in-Some.is in
    let its : c.args.job.process ≡ c.self.inside.process = cc in
    let small : c.args.job.vpn < 2 ^ 20 = omega arith in
    let inside : PagedValue _ = record { process = c.self.inside.process; pages = c.self.inside.pages; tables = c.self.inside.tables; caches = c.self.inside.caches; reserved = c.self.inside.reservations } in
    let after : PagedValue _ = record inside { pages = with_value c.self.inside.pages c.in-Some.place c.saved_in.new.self } in
    subst (λ (v : PagedValue _). IfErr c.saved_in.result (λ refusal. IsNotSaved c.args.job refusal v after)) c.self.view_is
    (refused_there c.self.inside.process c.args.job c.self.inside.pages c.in-Some.place c.at_mut.result.now c.saved_in.new.self at c.at_mut.ensures.value c.saved_in.ensures.origin c.saved_in.result its small c.saved_in.ensures.refused)

pub returns-clause-memory : goal.returns-clause-memory
returns-clause-memory g c is_honest =
    let at : place_of c.args.job.vpn c.self.inside.pages ≡ Some c.in-Some.place = ap (λ v. place_of v c.self.inside.pages) (sym c.vpn-vpn.ensures) ∙ sym c.place.ensures.place ∙ c.in-Some.is in
    let pages = with_value c.self.inside.pages c.in-Some.place c.saved_in.new.self in
    subst (λ v. memory_in g.S.SwapSlot.content pages c.self.inside.reservations ≡ memory_of g.S.SwapSlot.content v) c.self.view_is
    (ap (λ p. record { pages = p; reserved = c.self.inside.reservations })
    (memory_there c.self.inside.process c.args.job c.self.inside.pages c.in-Some.place c.at_mut.result.now c.saved_in.new.self at c.at_mut.ensures.value c.saved_in.ensures.origin g.S.SwapSlot.content (c.saved_in.ensures.content is_honest)))

pub returns-clause-read_only : goal.returns-clause-read_only
returns-clause-read_only g c =
    let at : place_of c.args.job.vpn c.self.inside.pages ≡ Some c.in-Some.place = ap (λ v. place_of v c.self.inside.pages) (sym c.vpn-vpn.ensures) ∙ sym c.place.ensures.place ∙ c.in-Some.is in
    let its : c.args.job.process ≡ c.self.inside.process = cc in
    let small : c.args.job.vpn < 2 ^ 20 = omega arith in
    subst (λ v. SameUnwritten (memory_of g.S.SwapSlot.content v).pages (flat_pages g.S.SwapSlot.content (with_value c.self.inside.pages c.in-Some.place c.saved_in.new.self))) c.self.view_is
    (unwritten_saved (with_value c.self.inside.pages c.in-Some.place c.saved_in.new.self) c.self.invariant c.self.inside.process c.args.job c.saved_in.result
    (freed_there c.self.inside.process c.args.job c.self.inside.pages c.in-Some.place c.at_mut.result.now c.saved_in.new.self at c.at_mut.ensures.value c.saved_in.ensures.origin c.saved_in.result its small c.saved_in.ensures.freed)
    (refused_there c.self.inside.process c.args.job c.self.inside.pages c.in-Some.place c.at_mut.result.now c.saved_in.new.self at c.at_mut.ensures.value c.saved_in.ensures.origin c.saved_in.result its small c.saved_in.ensures.refused))
