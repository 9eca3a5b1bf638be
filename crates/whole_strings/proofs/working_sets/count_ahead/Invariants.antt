use Rattle.whole_strings.proofs.WorkingSetLaws.{Tallies, below_uses}
use Rattle.whole_strings.proofs.working_sets.count_ahead.Given as goal

abbrev pub invariant-uses : goal.invariant-uses
invariant-uses l = Tallies below_uses l.at l.counts.items l.uses
