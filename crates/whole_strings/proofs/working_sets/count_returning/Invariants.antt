use Rattle.whole_strings.proofs.WorkingSetLaws.{Tallies, again_uses}
use Rattle.whole_strings.proofs.working_sets.count_returning.Given as goal

abbrev pub invariant-uses : goal.invariant-uses
invariant-uses l = Tallies again_uses l.at l.counts.items l.uses
