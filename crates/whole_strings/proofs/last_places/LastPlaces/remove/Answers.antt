use Rattle.std.proofs.Common.{◌/◌}
use Rattle.whole_strings.proofs.PlaceSumLaws.{removes_is, lowered_back, some_one, block_some}
use Rattle.whole_strings.proofs.last_places.LastPlaces.remove.Goals as goal

pub lower-requires-2-clause-some : goal.lower-requires-2-clause-some
lower-requires-2-clause-some c = some_one (c.args.at / 256) c.as_mut_slice-2.result.now c.args.self.now.blocks.items c.as_mut_slice-2.ensures.value
    (block_some c.args.at c.args.self.now.places.items c.args.self.now.blocks.items c.requires.sums.blocks c.requires.some)

pub lower-requires-3-clause-some : goal.lower-requires-3-clause-some
lower-requires-3-clause-some c = some_one (c.args.at / 256 / 256) c.as_mut_slice-3.result.now c.args.self.now.groups.items c.as_mut_slice-3.ensures.value
    (block_some (c.args.at / 256) c.args.self.now.blocks.items c.args.self.now.groups.items c.requires.sums.groups
    (block_some c.args.at c.args.self.now.places.items c.args.self.now.blocks.items c.requires.sums.blocks c.requires.some))

pub returns : goal.returns
returns c = removes_is c.args.at c.args.self.now _ c.requires.some c.requires.sums
    (lowered_back c.args.self.now.places.len c.args.at c.lower.new.counts c.args.self.now.places.items c.as_mut_slice.result.now c.args.self.now.places.ok.0 c.as_mut_slice.ensures.value c.lower.ensures)
    (lowered_back c.args.self.now.blocks.len (c.args.at / 256) c.lower-2.new.counts c.args.self.now.blocks.items c.as_mut_slice-2.result.now c.args.self.now.blocks.ok.0 c.as_mut_slice-2.ensures.value c.lower-2.ensures)
    (lowered_back c.args.self.now.groups.len (c.args.at / 256 / 256) c.lower-3.new.counts c.args.self.now.groups.items c.as_mut_slice-3.result.now c.args.self.now.groups.ok.0 c.as_mut_slice-3.ensures.value c.lower-3.ensures)
