use Rattle.std.proofs.Common.{◌≡◌, length}
use Rattle.ticked_policies.specs.Ticked.{each_ticked}
use Rattle.ticked_policies.proofs.FramedLaws.{ticked_from}
use Rattle.ticked_policies.proofs.framed.tick.Given as goal

-- the frames to come
abbrev pub invariant-places : goal.invariant-places
invariant-places l = record {
  to_come : ticked_from l.rule l.place l.pages.entries ≡ each_ticked l.rule l.initial.pages.entries;
  as_many : length l.pages.entries ≡ length l.initial.pages.entries;
}
