-- One event.
use Rattle.serial_driver.proofs.Limited.{plays_one}
use Rattle.serial_driver.proofs.watched.happen.Goals as goal

pub returns-clause-plays : goal.returns-clause-plays
returns-clause-plays g c = λ most tried patient.
    plays_one g.S.SwapSlot.content g.S.SwapSlot.honest g.S.SwapSlot.failures most tried _ _ c.args.patience.now.spent c.args.core.now c.apply-reply.new.self c.heed.new.self _ _ c.apply-reply.ensures.applies
    c.requires.unlimited (c.heed.ensures.tries most tried patient) (c.heed.ensures.spent most tried patient) c.requires.pays c.requires.in_turn c.heed-2.ensures
