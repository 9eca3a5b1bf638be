use Rattle.std.proofs.Common.{subst}
use Rattle.space_core.specs.StandsFor.{SpaceValue, StandsFor}
use Rattle.space_core.proofs.space.Space.coherent.Goals as goal

pub returns-clause-stands : goal.returns-clause-stands
returns-clause-stands g c is_honest = subst (λ (v : SpaceValue g.row.S.Denot). StandsFor g.S.SwapSlot.content v) c.self.view_is (c.self.invariant.space.stands is_honest)
