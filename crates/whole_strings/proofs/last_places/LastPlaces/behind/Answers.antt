use Rattle.std.proofs.Common.{◌≡◌, ◌≤◌, ◌+◌, ◌-◌, ◌/◌, ◌∙◌, take, drop, length, arith, ap}
use Rattle.whole_strings.specs.LastPlaces.{total, sum_from}
use Rattle.whole_strings.proofs.PlaceSumLaws.{behind_slices, behind_few, blocks_total, groups_total, total_part}
use Rattle.whole_strings.proofs.last_places.LastPlaces.behind.Goals as goal

pub sum_in_block-middle-requires-clause-small : goal.sum_in_block-middle-requires-clause-small
sum_in_block-middle-requires-clause-small c =
    let small = c.requires.small in
    let same : total c.as_slice-2.result.now ≡ total c.args.self.now.places.items = ap total c.as_slice-2.ensures.value ∙ blocks_total c.args.self.now c.requires.sums in
    omega (arith, small, same)

pub sum_of-far-requires : goal.sum_of-far-requires
sum_of-far-requires c =
    let small = c.requires.small in
    let same : total c.as_slice-3.result.now ≡ total c.args.self.now.places.items = ap total c.as_slice-3.ensures.value ∙ groups_total c.args.self.now c.requires.sums in
    let few : total (take (length c.as_slice-3.result.now - (c.args.at / 256 / 256 + 1)) (drop (c.args.at / 256 / 256 + 1) c.as_slice-3.result.now)) ≤ total c.as_slice-3.result.now =
    total_part (length c.as_slice-3.result.now - (c.args.at / 256 / 256 + 1)) (c.args.at / 256 / 256 + 1) c.as_slice-3.result.now in
    omega (arith, small, same, few)

pub overflow_add-result : goal.overflow_add-result
overflow_add-result c =
    let whole : c.sum_in_block-near.result + c.sum_in_block-middle.result + c.sum_of-far.result ≡ sum_from (c.args.at + 1) c.args.self.now.places.items =
    behind_slices c.args.at c.sum_in_block-near.result c.sum_in_block-middle.result c.sum_of-far.result c.args.self.now c.as_slice.result.now c.as_slice-2.result.now c.as_slice-3.result.now c.requires.sums
    c.as_slice.ensures.value c.as_slice-2.ensures.value c.as_slice-3.ensures.value c.sum_in_block-near.ensures c.sum_in_block-middle.ensures c.sum_of-far.ensures in
    let few = behind_few c.args.at (c.sum_in_block-near.result + c.sum_in_block-middle.result + c.sum_of-far.result) c.args.self.now whole c.requires.small in
    omega (arith, few)

pub overflow_add-result-2 : goal.overflow_add-result-2
overflow_add-result-2 c =
    let whole : c.sum_in_block-near.result + c.sum_in_block-middle.result + c.sum_of-far.result ≡ sum_from (c.args.at + 1) c.args.self.now.places.items =
    behind_slices c.args.at c.sum_in_block-near.result c.sum_in_block-middle.result c.sum_of-far.result c.args.self.now c.as_slice.result.now c.as_slice-2.result.now c.as_slice-3.result.now c.requires.sums
    c.as_slice.ensures.value c.as_slice-2.ensures.value c.as_slice-3.ensures.value c.sum_in_block-near.ensures c.sum_in_block-middle.ensures c.sum_of-far.ensures in
    let few = behind_few c.args.at (c.sum_in_block-near.result + c.sum_in_block-middle.result + c.sum_of-far.result) c.args.self.now whole c.requires.small in
    omega (arith, few)

pub returns : goal.returns
returns c = behind_slices c.args.at c.sum_in_block-near.result c.sum_in_block-middle.result c.sum_of-far.result c.args.self.now c.as_slice.result.now c.as_slice-2.result.now c.as_slice-3.result.now c.requires.sums
    c.as_slice.ensures.value c.as_slice-2.ensures.value c.as_slice-3.ensures.value c.sum_in_block-near.ensures c.sum_in_block-middle.ensures c.sum_of-far.ensures
