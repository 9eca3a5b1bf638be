use Rattle.whole_strings.proofs.OptimumCurveLaws.{Falling}
use Rattle.whole_strings.proofs.each_optimum.falls.Given as goal

abbrev pub invariant-depths : goal.invariant-depths
invariant-depths l = Falling l.depth l.references l.left l.hits l.curve.items
