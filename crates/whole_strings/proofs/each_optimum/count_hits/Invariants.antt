use Rattle.whole_strings.proofs.CutStackLaws.{CutCounting}
use Rattle.whole_strings.proofs.each_optimum.count_hits.Given as goal

abbrev pub invariant-references : goal.invariant-references
invariant-references l = CutCounting l.most l.at l.hits.items l.stack.items l.string
