use Rattle.std.specs.Prelude.{ℕ}
use Rattle.clock_policy.specs.SingleMoves.{fronts_passed}
use Rattle.std.proofs.Common.{sym, ap, ◌∙◌}
use Rattle.clock_ring.specs.BodyState.{state_of}
use Rattle.clock_ring.proofs.PassLaws.{front_goes_by, front_reached, some_at}
use Rattle.clock_ring.proofs.body.Body.pass_fronts.Goals as goal

pub pass_front-requires : goal.pass_front-requires
pass_front-requires c = some_at c.to_front.self.ring.cells c.args.found.at c.args.found.entry c.to_front.invariant.holds

pub returns-then-front-found-clause-moved : goal.returns-then-front-found-clause-moved
returns-then-front-found-clause-moved c =
    sym (ap (λ (n : ℕ). fronts_passed n (state_of c.to_front.self)) (front_reached c.to_front.self.ring.cells c.args.found.at c.front-front.result c.args.found.entry c.to_front.invariant.holds c.front-front.ensures c.if-front-found.true))
    ∙ c.to_front.invariant.rest

pub to_front-smaller : goal.to_front-smaller
to_front-smaller c = (front_goes_by c.to_front.self.ring.cells c.pass_front.new.self.ring.cells c.args.found.at c.front-front.result c.args.found.entry (state_of c.to_front.self) (state_of c.pass_front.new.self) c.to_front.self.kept.whole.distinct c.to_front.invariant.holds c.front-front.ensures c.if-front-found.false c.pass_front.ensures.cells c.pass_front.ensures.moved).nearer

pub to_front-preserved : goal.to_front-preserved
to_front-preserved c =
    let step = front_goes_by c.to_front.self.ring.cells c.pass_front.new.self.ring.cells c.args.found.at c.front-front.result c.args.found.entry (state_of c.to_front.self) (state_of c.pass_front.new.self) c.to_front.self.kept.whole.distinct c.to_front.invariant.holds c.front-front.ensures c.if-front-found.false c.pass_front.ensures.cells c.pass_front.ensures.moved in
    record { holds = step.holds; rest = step.rest ∙ c.to_front.invariant.rest }
