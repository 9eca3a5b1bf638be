-- there is no question exactly where nothing is resident
use Rattle.clock_policy.proofs.QuestionLaws.{asked_nowhere}
use Rattle.clock_ring.specs.BodyState.{state_of}
use Rattle.clock_ring.proofs.ring.ClockRingClock.question.Goals as goal

pub returns-clause-none : goal.returns-clause-none
returns-clause-none c = rw (← c.self.view_is) (asked_nowhere (state_of c.self.inside.body) c.question.result c.question.ensures)
