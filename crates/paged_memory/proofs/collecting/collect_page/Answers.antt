use Rattle.std.proofs.Common.{◌≡◌, Some, refl, ap, sym, ◌∙◌}
use Rattle.page_memory.specs.Entries.{place_of, with_value}
use Rattle.paged_memory.proofs.move_laws.PagedLaws.{page_at-place, page_at-nowhere, changed_by}
use Rattle.paged_memory.proofs.move_laws.MovesLaws.{with_same}
use Rattle.paged_memory.proofs.move_laws.CollectingLaws.{not_gone}
use Rattle.paged_memory.proofs.collecting.collect_page.Goals as goal

pub returns-in_default-clause-answer : goal.returns-in_default-clause-answer
returns-in_default-clause-answer g c =
    rw (page_at-nowhere c.args.pages.now c.args.vpn (sym c.place.ensures.place ∙ c.in_default.is)) (refl, (refl, refl))

pub returns-clause-answer : goal.returns-clause-answer
returns-clause-answer g c =
    let at : place_of c.args.vpn c.args.pages.now ≡ Some c.in-Some.place = sym c.place.ensures.place ∙ c.in-Some.is in
    rw (page_at-place c.args.pages.now c.args.vpn c.in-Some.place c.at_mut.result.now at c.at_mut.ensures.value)
    (changed_by c.args.pages.now c.args.vpn c.in-Some.place c.at_mut.result.now c.collect_in.new.self at c.at_mut.ensures.value (c.collect_in.ensures.origin, c.collect_in.ensures.answer))

pub returns-clause-same : goal.returns-clause-same
returns-clause-same g c =
    λ left. ap (with_value c.args.pages.now c.in-Some.place) (not_gone c.args.process c.args.vpn c.args.cached c.args.spare.now c.collect_in.new.spare c.collect_in.result c.at_mut.result.now c.collect_in.new.self (c.collect_in.ensures.origin, c.collect_in.ensures.answer) left)
    ∙ with_same c.args.pages.now c.in-Some.place c.at_mut.result.now c.at_mut.ensures.value
