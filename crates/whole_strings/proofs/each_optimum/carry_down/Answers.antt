use Rattle.whole_strings.proofs.CarryingLaws.{loop_first, loop_found, loop_end}
use Rattle.whole_strings.proofs.each_optimum.carry_down.Goals as goal

pub places-init : goal.places-init
places-init c = loop_first c.args.at c.args.next c.args.places.now c.requires c.if-carried-at.false

pub returns-then-places-here-clause-places : goal.returns-then-places-here-clause-places
returns-then-places-here-clause-places c = loop_found c.args.at c.args.next c.places.here c.places.carried c.args.places.now c.places.places c.places-test.true c.if-places-here.true c.places.invariant

pub returns-clause-places : goal.returns-clause-places
returns-clause-places c = loop_end c.args.at c.args.next c.places.here c.places.carried c.args.places.now c.places.places c.requires c.places-test.false c.places.auto.here-end c.places.invariant
