-- an empty list is lawful
use Rattle.std.proofs.Common.{arith}
use Rattle.std.proofs.lemmas.Grind.{common_steps}
use Rattle.clock_policy.proofs.ClockLaws.{opening_lawful}
use Rattle.clock_ring.proofs.ring.ClockRingClock.new.Goals as goal

pub invariant_of-result : goal.invariant_of-result
invariant_of-result c = rw c.in-Ok.ensures (opening_lawful c.args.frames (grind (arith, common_steps)) (grind (arith, common_steps)))

pub returns-in-Ok-clause-lawful : goal.returns-in-Ok-clause-lawful
returns-in-Ok-clause-lawful c = rw c.in-Ok.ensures (opening_lawful c.args.frames (grind (arith, common_steps)) (grind (arith, common_steps)))
