use Rattle.std.proofs.Common.{◌≡◌, ◌<◌, ◌==◌, None, length, position, slice_index, rules, subst, sym, ◌∙◌}
use Rattle.std.proofs.lemmas.List.{get_or_default}
use Rattle.page_memory.proofs.Indexing.{fresh}
use Rattle.page_memory.proofs.page_index.PageIndex.try_clone.Goals as goal

pub push-requires-clause-absent : goal.push-requires-clause-absent
push-requires-clause-absent c =
    let items = c.self.inside.pages.items in
    let many : c.len-place-end.result ≡ length items = search rules in
    let within : c.places.place < length items = subst (λ n. c.places.place < n) many c.places-test.true in
    let page : slice_index items c.places.place ≡ c.index.result.now = get_or_default items c.places.place 0 c.index.result.now within ∙ sym c.index.ensures in
    subst (λ p. position (λ listed. listed == p) c.places.copy ≡ None) page
    (subst (λ l. position (λ listed. listed == slice_index items c.places.place) l ≡ None) (sym c.places.invariant) (fresh c.self.inside.directory.items items c.places.place c.self.invariant within))
