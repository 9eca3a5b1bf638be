use Rattle.std.proofs.Common.{◌≤◌, ◌+◌, ◌-◌, take, drop, length, arith}
use Rattle.whole_strings.specs.LastPlaces.{total}
use Rattle.whole_strings.proofs.PlaceSumLaws.{total_cut}
use Rattle.whole_strings.proofs.last_places.sum_in_block.Goals as goal

pub sum_of-requires : goal.sum_of-requires
sum_of-requires c =
    let small = c.requires.small in
    let few : total (take c.min-most.result (take (length c.args.counts.now - (c.args.at + 1)) (drop (c.args.at + 1) c.args.counts.now))) ≤ total c.args.counts.now =
    total_cut c.min-most.result (length c.args.counts.now - (c.args.at + 1)) (c.args.at + 1) c.args.counts.now in
    omega (arith, small, few)
