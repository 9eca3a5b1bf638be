-- the call keeps the state lawful
use Rattle.std.proofs.Common.{ap, ◌∙◌}
use Rattle.clock_policy.proofs.ClockLaws.{withdrawn_lawful}
use Rattle.clock_policy.specs.ClockPro.{ClockState}
use Rattle.clock_policy.proofs.KeptLaws.{withdrawn_frames, withdrawn_left_at}
use Rattle.clock_ring.specs.BodyState.{state_of}
use Rattle.clock_ring.proofs.ring.ClockRingClock.withdraw.Goals as goal

pub invariant_of-self : goal.invariant_of-self
invariant_of-self c = rw c.withdraw.ensures.moved (withdrawn_lawful c.args.key (state_of c.self.inside.body) c.self.invariant)

pub returns-clause-lawful : goal.returns-clause-lawful
returns-clause-lawful c = rw c.withdraw.ensures.moved (withdrawn_lawful c.args.key (state_of c.self.inside.body) c.self.invariant)

pub returns-clause-frames : goal.returns-clause-frames
returns-clause-frames c =
    ap (λ (t : ClockState). t.frames) c.withdraw.ensures.moved ∙ withdrawn_frames c.args.key (state_of c.self.inside.body) ∙ ap (λ (t : ClockState). t.frames) c.self.view_is

pub returns-clause-no_more_left : goal.returns-clause-no_more_left
returns-clause-no_more_left c = rw (← c.self.view_is) (withdrawn_left_at c.args.key (state_of c.self.inside.body) (state_of c.withdraw.new.list) c.withdraw.ensures.moved)
