use Rattle.std.proofs.Common.{◌≡◌, length, ap, sym, ◌∙◌, arith, refl, slice_get}
use Rattle.std.proofs.lemmas.Option.{slice_get_read}
use Rattle.page_memory.specs.Entries.{value_at}
use Rattle.page_memory.proofs.PlacedEntries.{as_many, values_are}
use Rattle.page_memory.proofs.page_map.PageMap.at.Goals as goal

pub index-requires : goal.index-requires
index-requires g c =
    let n : length c.args.self.now ≡ length c.self.inside.values.items = ap length (sym c.self.view_is) ∙ as_many c.self.inside.index c.self.inside.values.items c.self.invariant in
    omega (arith, c.self.inside.values.ok.0)

pub returns : goal.returns
returns g c =
    let n : length c.args.self.now ≡ length c.self.inside.values.items = ap length (sym c.self.view_is) ∙ as_many c.self.inside.index c.self.inside.values.items c.self.invariant in
    ap (value_at c.args.place) (sym c.self.view_is) ∙ ap (λ l. slice_get l c.args.place) (values_are c.self.inside.index c.self.inside.values.items c.self.invariant)
    ∙ slice_get_read c.self.inside.values.items (length c.self.inside.values.items) c.args.place c.index.result.now refl (omega arith) c.index.ensures
