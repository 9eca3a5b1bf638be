use Rattle.std.proofs.Common.{◌≡◌, Some, None, refl, sym, ◌∙◌, subst}
use Rattle.page_memory.specs.Entries.{place_of}
use Rattle.page_store.specs.declared.refusal.CleanRefusal.TheVariants.{NotResident}
use Rattle.paged_memory.specs.cleaning.Cleaning.{RefusesClean}
use Rattle.paged_memory.proofs.cleaning_laws.CleaningLaws.{begun_at, refused_at, refused_begin}
use Rattle.paged_memory.proofs.move_laws.PagedLaws.{page_at-nowhere}
use Rattle.paged_memory.proofs.cleaning.begin_page.Goals as goal

pub returns-in_default-clause-refused : goal.returns-in_default-clause-refused
returns-in_default-clause-refused g c =
    let none : place_of c.args.vpn c.args.pages.now ≡ None = sym c.place.ensures.place ∙ c.in_default.is in
    subst (λ o. RefusesClean c.args.ended c.args.dirty o NotResident) (sym (page_at-nowhere c.args.pages.now c.args.vpn none)) refl

pub returns-clause-ok : goal.returns-clause-ok
returns-clause-ok g c =
    let at : place_of c.args.vpn c.args.pages.now ≡ Some c.in-Some.place = sym c.place.ensures.place ∙ c.in-Some.is in
    begun_at c.args.ended c.args.dirty c.args.pages.now c.args.vpn c.in-Some.place c.at_mut.result.now c.begin_clean.new.self c.begin_clean.result at c.at_mut.ensures.value c.begin_clean.ensures.origin c.begin_clean.ensures.ok

pub returns-clause-refused : goal.returns-clause-refused
returns-clause-refused g c =
    let at : place_of c.args.vpn c.args.pages.now ≡ Some c.in-Some.place = sym c.place.ensures.place ∙ c.in-Some.is in
    refused_at c.args.ended c.args.dirty c.args.pages.now c.args.vpn c.in-Some.place c.at_mut.result.now c.begin_clean.result at c.at_mut.ensures.value c.begin_clean.ensures.refused

pub returns-clause-err : goal.returns-clause-err
returns-clause-err g c = refused_begin c.args.pages.now c.in-Some.place c.at_mut.result.now c.begin_clean.new.self c.begin_clean.result c.at_mut.ensures.value c.begin_clean.ensures.err
