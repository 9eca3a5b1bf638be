use Rattle.std.proofs.Common.{List}
use Rattle.clock_policy.specs.declared.key.Key.{Key}
use Rattle.whole_strings.proofs.WorkingSetLaws.{Counted}
use Rattle.whole_strings.specs.WorkingSets.{IsAhead, IsReturning}
use Rattle.whole_strings.proofs.working_sets.add_up.Given as goal

abbrev pub invariant-windows : goal.invariant-windows
invariant-windows l = (string : List Key) → IsAhead l.ahead string → IsReturning l.again string → Counted l.window l.sizes l.below l.found l.curve.items l.ahead l.again string
