-- The save that is out is done, and the run is closed.
use Rattle.std.proofs.Common.{Option, sym, subst}
use Rattle.clock_policy.specs.declared.key.Key.{Key}
use Rattle.serial_driver.specs.Limit.{PlaysUpTo}
use Rattle.serial_driver.proofs.Watching.{played_closed}
use Rattle.serial_driver.proofs.watched.SerialRun.close.Goals as goal

pub returns-clause-closed : goal.returns-clause-closed
returns-clause-closed g c = λ slice limit first faithful plays.
    played_closed g.S.SwapSlot.content g.S.SwapSlot.honest g.S.SwapSlot.failures slice limit c.unsaved-unsaved.result first c.args.core.now c.save.new.core c.end_all.new.core faithful
    (subst (λ (unsaved : Option Key). PlaysUpTo g.S.SwapSlot.content g.S.SwapSlot.honest g.S.SwapSlot.failures slice limit unsaved first c.args.core.now) (sym c.unsaved-unsaved.ensures) plays)
    c.save.ensures c.end_all.ensures.closes
