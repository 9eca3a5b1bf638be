use Rattle.std.proofs.Common.{◌≡◌}
use Rattle.paged_memory.proofs.move_laws.GivenLaws.{giving_within}
use Rattle.paged_memory.specs.moves.Moving.{HasNothingBelow}
use Rattle.paged_memory.specs.Whole.{harts_in}
use Rattle.machine_sides.specs.Giving.{GivesSome}
use Rattle.machine_sides.proofs.purging.give_all_back.Given as goal

abbrev pub invariant-loop-given : goal.invariant-loop-given
invariant-loop-given g l = record {
  gave : GivesSome l.initial.pager l.pager l.initial.slots l.slots l.initial.space l.space;
  given : HasNothingBelow l.from l.space.memory;
  harts : harts_in l.space.memory ≡ harts_in l.initial.space.memory;
}

abbrev pub decreases-loop-given : goal.decreases-loop-given
decreases-loop-given g l = giving_within l.space.memory
