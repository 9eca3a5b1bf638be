-- the call keeps the state lawful
use Rattle.std.specs.Prelude.{◌≡◌, ◌-◌}
use Rattle.std.proofs.Common.{arith, ap, ◌∙◌}
use Rattle.clock_ring.proofs.KeptLaws.{purge_left}
use Rattle.clock_policy.proofs.ClockLaws.{purged_lawful}
use Rattle.clock_policy.specs.ClockPro.{ClockState, purge_count}
use Rattle.clock_policy.proofs.KeptLaws.{purged_frames, purged_left_at}
use Rattle.clock_ring.specs.BodyState.{state_of}
use Rattle.clock_ring.proofs.ring.ClockRingClock.purge.Goals as goal

pub invariant_of-self : goal.invariant_of-self
invariant_of-self c = rw c.purge.ensures.moved (purged_lawful c.args.process (state_of c.self.inside.body) c.self.invariant)

pub returns-clause-lawful : goal.returns-clause-lawful
returns-clause-lawful c = rw c.purge.ensures.moved (purged_lawful c.args.process (state_of c.self.inside.body) c.self.invariant)

pub returns-clause-frames : goal.returns-clause-frames
returns-clause-frames c =
    ap (λ (t : ClockState). t.frames) c.purge.ensures.moved ∙ purged_frames c.args.process (state_of c.self.inside.body) ∙ ap (λ (t : ClockState). t.frames) c.self.view_is

pub returns-clause-no_more_left : goal.returns-clause-no_more_left
returns-clause-no_more_left c = rw (← c.self.view_is) (purged_left_at c.args.process (state_of c.self.inside.body) (state_of c.purge.new.self) c.purge.ensures.moved)

pub overflow_sub-result : goal.overflow_sub-result
overflow_sub-result c = omega (arith, purge_left c.args.process (state_of c.self.inside.body) (state_of c.purge.new.self) c.purge.ensures.moved, c.len.ensures.len, c.len-before.ensures.len)

pub returns-clause-count : goal.returns-clause-count
returns-clause-count c =
    let count : c.len-before.result - c.len.result ≡ purge_count c.args.process (state_of c.self.inside.body) =
    omega (arith, purge_left c.args.process (state_of c.self.inside.body) (state_of c.purge.new.self) c.purge.ensures.moved, c.len.ensures.len, c.len-before.ensures.len) in
    count ∙ ap (purge_count c.args.process) c.self.view_is
