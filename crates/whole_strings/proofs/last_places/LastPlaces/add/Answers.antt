use Rattle.std.proofs.Common.{◌≡◌, ◌/◌, arith}
use Rattle.whole_strings.specs.LastPlaces.{total}
use Rattle.whole_strings.proofs.PlaceSumLaws.{adds_is, noted_back, small_one, blocks_total, groups_total}
use Rattle.whole_strings.proofs.last_places.LastPlaces.add.Goals as goal

pub note_hit-requires-clause-small : goal.note_hit-requires-clause-small
note_hit-requires-clause-small c = small_one c.args.at c.as_mut_slice.result.now c.args.self.now.places.items c.as_mut_slice.ensures.value c.requires.small

pub note_hit-requires-2-clause-small : goal.note_hit-requires-2-clause-small
note_hit-requires-2-clause-small c =
    let small = c.requires.small in
    let same : total c.args.self.now.blocks.items ≡ total c.args.self.now.places.items = blocks_total c.args.self.now c.requires.sums in
    small_one (c.args.at / 256) c.as_mut_slice-2.result.now c.args.self.now.blocks.items c.as_mut_slice-2.ensures.value (omega (arith, same, small))

pub note_hit-requires-3-clause-small : goal.note_hit-requires-3-clause-small
note_hit-requires-3-clause-small c =
    let small = c.requires.small in
    let same : total c.args.self.now.groups.items ≡ total c.args.self.now.places.items = groups_total c.args.self.now c.requires.sums in
    small_one (c.args.at / 256 / 256) c.as_mut_slice-3.result.now c.args.self.now.groups.items c.as_mut_slice-3.ensures.value (omega (arith, same, small))

pub returns : goal.returns
returns c = adds_is c.args.at c.args.self.now _ c.requires.inside c.requires.sums
    (noted_back c.args.self.now.places.len c.args.at c.note_hit.new.hits c.args.self.now.places.items c.as_mut_slice.result.now c.args.self.now.places.ok.0 c.as_mut_slice.ensures.value c.note_hit.ensures)
    (noted_back c.args.self.now.blocks.len (c.args.at / 256) c.note_hit-2.new.hits c.args.self.now.blocks.items c.as_mut_slice-2.result.now c.args.self.now.blocks.ok.0 c.as_mut_slice-2.ensures.value c.note_hit-2.ensures)
    (noted_back c.args.self.now.groups.len (c.args.at / 256 / 256) c.note_hit-3.new.hits c.args.self.now.groups.items c.as_mut_slice-3.result.now c.args.self.now.groups.ok.0 c.as_mut_slice-3.ensures.value c.note_hit-3.ensures)
