use Rattle.std.proofs.Common.{◌≡◌, Some, None, refl, sym, ap, ◌∙◌, subst}
use Rattle.page_memory.specs.Entries.{place_of, with_value}
use Rattle.page_store.specs.declared.answer.CleanCopy.TheVariants.{NotCleaning}
use Rattle.paged_memory.specs.cleaning.Cleaning.{CopiesAt}
use Rattle.paged_memory.proofs.cleaning_laws.CleaningLaws.{unsettled_page}
use Rattle.paged_memory.proofs.move_laws.MovesLaws.{with_same}
use Rattle.paged_memory.proofs.move_laws.PagedLaws.{changed_by, page_at-nowhere, page_at-place}
use Rattle.paged_memory.proofs.cleaning.copy_page.Goals as goal

pub returns-in_default-clause-answer : goal.returns-in_default-clause-answer
returns-in_default-clause-answer g c =
    let none : place_of c.args.vpn c.args.pages.now ≡ None = sym c.place.ensures.place ∙ c.in_default.is in
    subst (λ o. CopiesAt c.args.process c.args.vpn c.args.stored.0 c.args.stored.1 c.args.spare.now c.args.spare.now NotCleaning c.args.pages.now c.args.pages.now o) (sym (page_at-nowhere c.args.pages.now c.args.vpn none))
    (refl, (refl, refl))

pub returns-clause-same : goal.returns-clause-same
returns-clause-same g c unsettled =
    ap (with_value c.args.pages.now c.in-Some.place) (unsettled_page c.args.process c.args.vpn c.args.stored.0 c.args.stored.1 c.args.spare.now c.copy_clean.new.spare c.copy_clean.result c.at_mut.result.now c.copy_clean.new.self c.copy_clean.ensures.origin c.copy_clean.ensures.answer unsettled)
    ∙ with_same c.args.pages.now c.in-Some.place c.at_mut.result.now c.at_mut.ensures.value

pub returns-clause-answer : goal.returns-clause-answer
returns-clause-answer g c =
    let at : place_of c.args.vpn c.args.pages.now ≡ Some c.in-Some.place = sym c.place.ensures.place ∙ c.in-Some.is in
    subst (λ o. CopiesAt c.args.process c.args.vpn c.args.stored.0 c.args.stored.1 c.args.spare.now c.copy_clean.new.spare c.copy_clean.result c.args.pages.now (with_value c.args.pages.now c.in-Some.place c.copy_clean.new.self) o)
    (sym (page_at-place c.args.pages.now c.args.vpn c.in-Some.place c.at_mut.result.now at c.at_mut.ensures.value))
    (changed_by c.args.pages.now c.args.vpn c.in-Some.place c.at_mut.result.now c.copy_clean.new.self at c.at_mut.ensures.value (c.copy_clean.ensures.origin, c.copy_clean.ensures.answer))
