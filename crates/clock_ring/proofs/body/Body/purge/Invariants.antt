use Rattle.clock_policy.specs.ClockPro.{purged}
use Rattle.clock_ring.specs.BodyState.{state_of}
use Rattle.clock_ring.proofs.PurgeLaws.{Purging}
use Rattle.clock_ring.proofs.body.Body.purge.Given as goal

abbrev pub invariant-loop-passed : goal.invariant-loop-passed
invariant-loop-passed l = Purging l.process l.initial.self.ring.cells l.self.ring.cells l._passed l.at (state_of l.self) (purged l.process (state_of l.initial.self))
