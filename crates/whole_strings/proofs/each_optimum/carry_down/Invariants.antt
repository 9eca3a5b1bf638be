use Rattle.whole_strings.proofs.CarryingLaws.{Carrying}
use Rattle.whole_strings.proofs.each_optimum.carry_down.Given as goal

abbrev pub invariant-places : goal.invariant-places
invariant-places l = Carrying l.at l.next l.here l.carried l.fn.places l.places
