use Rattle.std.proofs.Common.{◌≡◌, ◌+◌, drop}
use Rattle.whole_strings.specs.LastPlaces.{total}
use Rattle.whole_strings.proofs.last_places.sum_of.Given as goal

abbrev pub invariant-counts : goal.invariant-counts
invariant-counts l = l.sum + total (drop l.at l.counts) ≡ total l.counts
