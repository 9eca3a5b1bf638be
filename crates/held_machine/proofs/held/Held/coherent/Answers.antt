use Rattle.std.proofs.Common.{subst}
use Rattle.space_core.specs.StandsFor.{StandsFor}
use Rattle.held_machine.specs.HeldValue.{HeldValue}
use Rattle.held_machine.proofs.held.Held.coherent.Goals as goal

pub returns-clause-stands : goal.returns-clause-stands
returns-clause-stands g c = λ honest. subst (λ (h : HeldValue _). StandsFor g.S.SwapSlot.content h.side) c.self.view_is (c.coherent.ensures.stands honest)
