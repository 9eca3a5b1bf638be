use Rattle.std.proofs.Common.{◌≡◌, Some, sym, ap, ◌∙◌, subst}
use Rattle.page_memory.specs.Entries.{place_of}
use Rattle.paged_memory.specs.moves.GivingBack.{GivesNothing}
use Rattle.paged_memory.proofs.move_laws.PagedLaws.{page_at-place, changed_by}
use Rattle.paged_memory.proofs.giving_back.take.Goals as goal

pub place_there-place-requires-clause-there : goal.place_there-place-requires-clause-there
place_there-place-requires-clause-there g c = λ none. c.requires.something (subst GivesNothing (sym none) tt)

pub unreachable-requires : goal.unreachable-requires
unreachable-requires g c =
    let at : place_of c.args.vpn c.args.pages.now ≡ Some c.place_there-place.result = c.place_there-place.ensures.place in
    c.requires.something (subst GivesNothing (sym (page_at-place c.args.pages.now c.args.vpn c.place_there-place.result c.at_mut.result.now at c.at_mut.ensures.value)) (sym c.give_back.ensures.given ∙ c.in-None.is))

pub returns : goal.returns
returns g c =
    let at : place_of c.args.vpn c.args.pages.now ≡ Some c.place_there-place.result = c.place_there-place.ensures.place in
    changed_by c.args.pages.now c.args.vpn c.place_there-place.result c.at_mut.result.now c.give_back.new.self at c.at_mut.ensures.value (
      sym c.give_back.ensures.given ∙ c.in-Some.is,
      ap (λ o. record { origin = o; place = c.give_back.new.self.place }) c.give_back.ensures.origin ∙ ap (λ p. record { origin = c.at_mut.result.now.origin; place = p }) c.in-Some.ensures.purged,
    )
