-- One event, or none.
use Rattle.std.proofs.Common.{sym, ◌∙◌}
use Rattle.serial_driver.proofs.Closed.{ends_none, ends_kill}
use Rattle.serial_driver.proofs.Endings.{kill_ends, kill_keeps}
use Rattle.serial_driver.proofs.serial.end.Goals as goal

pub returns-then-not-is_running-clause-ends : goal.returns-then-not-is_running-clause-ends
returns-then-not-is_running-clause-ends g c = ends_none g.S.SwapSlot.content g.S.SwapSlot.honest g.S.SwapSlot.failures c.args.core.now _ (sym c.if-not-is_running.true ∙ c.is_running.ensures)

pub returns-clause-ends : goal.returns-clause-ends
returns-clause-ends g c = ends_kill g.S.SwapSlot.content g.S.SwapSlot.honest g.S.SwapSlot.failures c.args.core.now c.apply.new.self _ _ (sym c.if-not-is_running.false ∙ c.is_running.ensures) c.apply.ensures.applies

pub returns-clause-ended : goal.returns-clause-ended
returns-clause-ended g c = kill_ends g.S.SwapSlot.content g.S.SwapSlot.honest g.S.SwapSlot.failures c.args.core.now c.apply.new.self _ _ _ c.apply.ensures.applies

pub returns-clause-kept : goal.returns-clause-kept
returns-clause-kept g c = kill_keeps g.S.SwapSlot.content g.S.SwapSlot.honest g.S.SwapSlot.failures c.args.core.now c.apply.new.self _ _ _ c.apply.ensures.applies
