use Rattle.std.proofs.Common.{◌≡◌, ap, sym, ◌∙◌, position, ◌==◌, [], ◌∷◌, ◌++◌, length, zip, arith}
use Rattle.page_memory.specs.Entries.{place_of}
use Rattle.page_memory.proofs.PlacedEntries.{as_many, pages_are, zip_push}
use Rattle.page_memory.proofs.page_map.PageMap.insert.Goals as goal

pub push-requires-clause-absent : goal.push-requires-clause-absent
push-requires-clause-absent g c =
    ap (position (λ listed. listed == c.args.page)) (sym (pages_are c.self.inside.index c.self.inside.values.items c.self.invariant))
    ∙ ap (place_of c.args.page) c.self.view_is ∙ c.requires.absent

pub returns-clause-ok : goal.returns-clause-ok
returns-clause-ok g c =
    (λ i. zip (c.in_ok-push.ensures.ok i) ((c.push_reserved.ensures.items ∙ ap (λ l. l ++ c.args.value ∷ []) c.reserve.ensures.items) i))
    ∙ zip_push c.self.inside.index c.self.inside.values.items c.args.page c.args.value c.self.invariant
    ∙ ap (λ l. l ++ (c.args.page, c.args.value) ∷ []) c.self.view_is

pub returns-clause-place : goal.returns-clause-place
returns-clause-place g c =
    let n : length c.args.self.now ≡ length c.self.inside.values.items = ap length (sym c.self.view_is) ∙ as_many c.self.inside.index c.self.inside.values.items c.self.invariant in
    omega (arith, c.self.inside.values.ok.0)
