use Rattle.std.proofs.Common.{◌≡◌, length, refl, ap, sym, ◌∙◌, arith, slice_get}
use Rattle.std.proofs.lemmas.Option.{slice_get_read}
use Rattle.page_memory.specs.Entries.{value_at, with_value}
use Rattle.page_memory.proofs.PlacedEntries.{as_many, values_are, zip_set}
use Rattle.page_memory.proofs.page_map.PageMap.at_mut.Goals as goal

pub index_mut-requires : goal.index_mut-requires
index_mut-requires g c =
    let n : length c.args.self.now ≡ length c.self.inside.values.items = ap length (sym c.self.view_is) ∙ as_many c.self.inside.index c.self.inside.values.items c.self.invariant in
    omega (arith, c.self.inside.values.ok.0)

pub returns : goal.returns
returns g c =
    let n : length c.args.self.now ≡ length c.self.inside.values.items = ap length (sym c.self.view_is) ∙ as_many c.self.inside.index c.self.inside.values.items c.self.invariant in
    let value =
    ap (value_at c.args.place) (sym c.self.view_is) ∙ ap (λ l. slice_get l c.args.place) (values_are c.self.inside.index c.self.inside.values.items c.self.invariant)
    ∙ slice_get_read c.self.inside.values.items (length c.self.inside.values.items) c.args.place c.index_mut.result.now refl (omega arith) c.index_mut.ensures.value in
    ((refl, λ w. zip_set c.self.inside.index c.self.inside.values.items c.args.place w ∙ ap (λ l. with_value l c.args.place w) c.self.view_is), record { writes_back = tt; value = value })
