use Rattle.std.proofs.Common.{◌≡◌, ◌<◌, ◌^◌, Some, None, refl, arith, sym, ap, ◌∙◌, subst}
use Rattle.page_memory.specs.Entries.{place_of, with_value}
use Rattle.page_store.specs.Cleaning.{EndsCleaning}
use Rattle.page_store.specs.PageValue.{Backed}
use Rattle.sv32_table.specs.EntryAt.{entry_at, dirty_of}
use Rattle.paged_memory.specs.cleaning.Cleaning.{IsCopyOf, EndsCleaningIn}
use Rattle.paged_memory.specs.Paged.{PagedValue, memory_in, memory_of}
use Rattle.paged_memory.proofs.cleaning_laws.CleaningLaws.{copy_nowhere, ended_there, holds_ended, memory_ended}
use Rattle.paged_memory.proofs.move_laws.PagedLaws.{changes_at_place, page_at-place}
use Rattle.paged_memory.proofs.memory.PagedMemory.cleaned.Goals as goal

pub returns-in_default-clause-ended : goal.returns-in_default-clause-ended
returns-in_default-clause-ended g c =
    let none : place_of c.args.job.vpn c.self.inside.pages ≡ None = ap (λ v. place_of v c.self.inside.pages) (sym c.vpn-vpn.ensures) ∙ sym c.place.ensures.place ∙ c.in_default.is in (
      refl,
      (
        refl,
        subst (λ (v : PagedValue _). ¬ IsCopyOf v.process c.args.job (dirty_of (entry_at v.tables c.args.job.vpn)) v.pages) c.self.view_is
            (copy_nowhere c.self.inside.process c.args.job (dirty_of (entry_at c.self.inside.tables c.args.job.vpn)) c.self.inside.pages none),
      ),
    )

pub invariant_of-self : goal.invariant_of-self
invariant_of-self g c =
    let at : place_of c.args.job.vpn c.self.inside.pages ≡ Some c.in-Some.place = ap (λ v. place_of v c.self.inside.pages) (sym c.vpn-vpn.ensures) ∙ sym c.place.ensures.place ∙ c.in-Some.is in
    let small : c.args.job.vpn < 2 ^ 20 = omega arith in
    let told_by : c.is_dirty-dirty.result ≡ dirty_of (entry_at c.self.inside.tables c.args.job.vpn) = c.is_dirty-dirty.ensures ∙ ap (λ v. dirty_of (entry_at c.self.inside.tables v)) c.vpn-vpn.ensures in
    holds_ended c.args.job.vpn small c.self.invariant c.args.job c.at_mut.result.now c.cleaned.new.self c.cleaned.result
    (page_at-place c.self.inside.pages c.args.job.vpn c.in-Some.place c.at_mut.result.now at c.at_mut.ensures.value)
    (changes_at_place c.self.inside.pages c.args.job.vpn c.in-Some.place c.cleaned.new.self at)
    c.cleaned.ensures.origin
    (subst (λ d. EndsCleaning c.args.job d c.at_mut.result.now.place c.cleaned.new.self.place c.cleaned.result) told_by c.cleaned.ensures.ended)
    (λ is_honest. subst (λ d. Backed g.S.SwapSlot.content d c.at_mut.result.now → Backed g.S.SwapSlot.content d c.cleaned.new.self) told_by (c.cleaned.ensures.backed is_honest))

pub returns-clause-ended : goal.returns-clause-ended
returns-clause-ended g c =
    let at : place_of c.args.job.vpn c.self.inside.pages ≡ Some c.in-Some.place = ap (λ v. place_of v c.self.inside.pages) (sym c.vpn-vpn.ensures) ∙ sym c.place.ensures.place ∙ c.in-Some.is in
    let its : c.args.job.process ≡ c.self.inside.process = cc in
    let small : c.args.job.vpn < 2 ^ 20 = omega arith in
    let told_by : c.is_dirty-dirty.result ≡ dirty_of (entry_at c.self.inside.tables c.args.job.vpn) = c.is_dirty-dirty.ensures ∙ ap (λ v. dirty_of (entry_at c.self.inside.tables v)) c.vpn-vpn.ensures in
    let inside : PagedValue _ = record { process = c.self.inside.process; pages = c.self.inside.pages; tables = c.self.inside.tables; caches = c.self.inside.caches; reserved = c.self.inside.reservations } in
    let after : PagedValue _ = record inside { pages = with_value c.self.inside.pages c.in-Some.place c.cleaned.new.self } in
    subst (λ (v : PagedValue _). EndsCleaningIn c.args.job c.cleaned.result v after) c.self.view_is
    (ended_there c.self.inside.process c.args.job (dirty_of (entry_at c.self.inside.tables c.args.job.vpn)) c.self.inside.pages c.in-Some.place c.at_mut.result.now c.cleaned.new.self at c.at_mut.ensures.value c.cleaned.ensures.origin its small c.cleaned.result
    (subst (λ d. EndsCleaning c.args.job d c.at_mut.result.now.place c.cleaned.new.self.place c.cleaned.result) told_by c.cleaned.ensures.ended))

pub returns-clause-memory : goal.returns-clause-memory
returns-clause-memory g c =
    let at : place_of c.args.job.vpn c.self.inside.pages ≡ Some c.in-Some.place = ap (λ v. place_of v c.self.inside.pages) (sym c.vpn-vpn.ensures) ∙ sym c.place.ensures.place ∙ c.in-Some.is in
    let small : c.args.job.vpn < 2 ^ 20 = omega arith in
    let told_by : c.is_dirty-dirty.result ≡ dirty_of (entry_at c.self.inside.tables c.args.job.vpn) = c.is_dirty-dirty.ensures ∙ ap (λ v. dirty_of (entry_at c.self.inside.tables v)) c.vpn-vpn.ensures in
    let pages = with_value c.self.inside.pages c.in-Some.place c.cleaned.new.self in
    subst (λ v. memory_in g.S.SwapSlot.content pages c.self.inside.reservations ≡ memory_of g.S.SwapSlot.content v) c.self.view_is
    (ap (λ p. record { pages = p; reserved = c.self.inside.reservations })
    (memory_ended c.args.job.vpn small c.self.invariant c.args.job c.at_mut.result.now c.cleaned.new.self c.cleaned.result
    (page_at-place c.self.inside.pages c.args.job.vpn c.in-Some.place c.at_mut.result.now at c.at_mut.ensures.value)
    (changes_at_place c.self.inside.pages c.args.job.vpn c.in-Some.place c.cleaned.new.self at)
    c.cleaned.ensures.origin
    (subst (λ d. EndsCleaning c.args.job d c.at_mut.result.now.place c.cleaned.new.self.place c.cleaned.result) told_by c.cleaned.ensures.ended)
    (λ is_honest. subst (λ d. Backed g.S.SwapSlot.content d c.at_mut.result.now → Backed g.S.SwapSlot.content d c.cleaned.new.self) told_by (c.cleaned.ensures.backed is_honest))))
