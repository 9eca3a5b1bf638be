use Rattle.std.proofs.Common.{refl, ◌/◌, ◌+◌}
use Rattle.whole_strings.proofs.PlaceSumLaws.{summed_none}
use Rattle.whole_strings.proofs.last_places.LastPlaces.new.Goals as goal

pub returns-clause-sums : goal.returns-clause-sums
returns-clause-sums c = summed_none c.args.count (c.args.count / 256 + 1) ((c.args.count / 256 + 1) / 256 + 1) _ refl refl c.in_ok-no_counts.ensures c.in_ok-no_counts-2.ensures c.in_ok-no_counts-3.ensures
