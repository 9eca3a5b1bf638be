use Rattle.ticked_policies.specs.SecondChance.{one_bit}
use Rattle.ticked_policies.proofs.laws.ticked_policies_are_plays.Goals as goal

pub returns-clause-second_chance : goal.returns-clause-second_chance
returns-clause-second_chance c = λ arrival. c.textbook_policies_are_plays.ensures.g_clock (one_bit arrival)
