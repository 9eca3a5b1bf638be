-- the call keeps the state lawful
use Rattle.std.proofs.Common.{ap, ◌∙◌}
use Rattle.clock_policy.proofs.ClockLaws.{answered_lawful, lowers_at}
use Rattle.clock_policy.proofs.QuestionLaws.{refused_nowhere}
use Rattle.clock_policy.specs.ClockPro.{ClockState}
use Rattle.clock_policy.proofs.KeptLaws.{answered_frames}
use Rattle.clock_ring.specs.BodyState.{state_of}
use Rattle.clock_ring.proofs.ring.ClockRingClock.answer.Goals as goal

pub invariant_of-self : goal.invariant_of-self
invariant_of-self c = rw c.answer.ensures.moved (answered_lawful c.args.bit (state_of c.self.inside.body) c.self.invariant)

pub returns-clause-lawful : goal.returns-clause-lawful
returns-clause-lawful c = rw c.answer.ensures.moved (answered_lawful c.args.bit (state_of c.self.inside.body) c.self.invariant)

pub returns-clause-lowers : goal.returns-clause-lowers
returns-clause-lowers c = λ on. rw (← c.self.view_is) (lowers_at c.args.bit (state_of c.self.inside.body) (state_of c.answer.new.list) c.answer.result c.self.invariant c.answer.ensures.moved c.answer.ensures.answer on)

pub returns-clause-none : goal.returns-clause-none
returns-clause-none c = rw (← c.self.view_is) (refused_nowhere c.args.bit (state_of c.self.inside.body) c.answer.result c.answer.ensures.answer)

pub returns-clause-frames : goal.returns-clause-frames
returns-clause-frames c =
    ap (λ (t : ClockState). t.frames) c.answer.ensures.moved ∙ answered_frames c.args.bit (state_of c.self.inside.body) ∙ ap (λ (t : ClockState). t.frames) c.self.view_is
