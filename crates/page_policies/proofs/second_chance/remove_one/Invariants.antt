use Rattle.std.proofs.Common.{◌≡◌, ◌-◌}
use Rattle.page_policies.specs.SecondChance.{one_gone, slots_of}
use Rattle.page_policies.proofs.second_chance.remove_one.Given as goal

abbrev pub invariant-loop-turn : goal.invariant-loop-turn
invariant-loop-turn l = record {
  slots : one_gone (l.turns - l._turn) (slots_of l.ring.cells) ≡ one_gone l.turns (slots_of l.initial.ring.cells);
  room : l.ring.room ≡ l.initial.ring.room;
}
