-- the call keeps the state lawful
use Rattle.std.proofs.Common.{ap, ◌∙◌}
use Rattle.clock_policy.proofs.ClockLaws.{admitted_lawful}
use Rattle.clock_policy.specs.ClockPro.{ClockState}
use Rattle.clock_policy.proofs.KeptLaws.{admitted_frames}
use Rattle.clock_ring.specs.BodyState.{state_of}
use Rattle.clock_ring.proofs.ring.ClockRingClock.admit.Goals as goal

pub invariant_of-self : goal.invariant_of-self
invariant_of-self c = rw c.admit.ensures.moved (admitted_lawful c.args.key (state_of c.self.inside.body) c.self.invariant)

pub returns-clause-lawful : goal.returns-clause-lawful
returns-clause-lawful c = rw c.admit.ensures.moved (admitted_lawful c.args.key (state_of c.self.inside.body) c.self.invariant)

pub returns-clause-frames : goal.returns-clause-frames
returns-clause-frames c =
    ap (λ (t : ClockState). t.frames) c.admit.ensures.moved ∙ admitted_frames c.args.key (state_of c.self.inside.body) ∙ ap (λ (t : ClockState). t.frames) c.self.view_is
