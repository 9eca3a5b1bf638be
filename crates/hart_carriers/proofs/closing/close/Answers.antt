use Rattle.std.proofs.Common.{List, All, subst}
use Rattle.held_machine.specs.HeldValue.{HeldValue}
use Rattle.space_core.specs.StandsFor.{StandsFor}
use Rattle.hart_carriers.proofs.closing.close.Goals as goal

pub returns-clause-stands : goal.returns-clause-stands
returns-clause-stands g c = λ honest audit. c.tell-told.ensures.stands honest (c.all_hold.ensures.started audit)

pub returns-clause-stand : goal.returns-clause-stand
returns-clause-stand g c = λ honest. subst (λ (l : List (HeldValue g.row.S.Denot)). All (λ h. StandsFor g.S.SwapSlot.content h.side) l) c.as_slice.ensures.value (c.all_stand.ensures honest)
