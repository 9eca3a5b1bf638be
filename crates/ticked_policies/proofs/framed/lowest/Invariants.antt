use Rattle.std.proofs.Common.{◌≡◌, ◌<◌, drop, length, slice_get}
use Rattle.ticked_policies.specs.Framed.{lowest, lowest_from, rank_in}
use Rattle.ticked_policies.specs.Ticked.{rank_of}
use Rattle.ticked_policies.proofs.framed.lowest.Given as goal

-- the best so far, and the frames to come
abbrev pub invariant-places : goal.invariant-places
invariant-places l = record {
  to_come : lowest_from (rank_of l.rule) l.best (rank_in (rank_of l.rule) (slice_get l.pages.entries l.best)) l.place (drop l.place l.pages.entries) ≡ lowest (rank_of l.rule) l.pages.entries;
  within : l.best < length l.pages.entries;
}
