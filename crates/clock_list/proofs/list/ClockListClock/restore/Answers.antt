-- the call keeps the state lawful
use Rattle.std.proofs.Common.{ap, ◌∙◌}
use Rattle.clock_policy.proofs.ClockLaws.{restored_lawful}
use Rattle.clock_policy.specs.ClockPro.{ClockState}
use Rattle.clock_policy.proofs.KeptLaws.{restored_frames}
use Rattle.clock_list.specs.BodyState.{state_of}
use Rattle.clock_list.proofs.list.ClockListClock.restore.Goals as goal

pub invariant_of-self : goal.invariant_of-self
invariant_of-self c = rw c.restore.ensures.moved (restored_lawful c.args.key (state_of c.self.inside.body) c.self.invariant)

pub returns-clause-lawful : goal.returns-clause-lawful
returns-clause-lawful c = rw c.restore.ensures.moved (restored_lawful c.args.key (state_of c.self.inside.body) c.self.invariant)

pub returns-clause-frames : goal.returns-clause-frames
returns-clause-frames c =
    ap (λ (t : ClockState). t.frames) c.restore.ensures.moved ∙ restored_frames c.args.key (state_of c.self.inside.body) ∙ ap (λ (t : ClockState). t.frames) c.self.view_is
