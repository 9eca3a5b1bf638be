-- One event more, or none.
use Rattle.std.proofs.Common.{refl, arith}
use Rattle.serial_driver.proofs.Watching.{played_more, played_out, played_up}
use Rattle.serial_driver.proofs.watched.SerialRun.next.Goals as goal

pub returns-then-self-eq0-clause-over : goal.returns-then-self-eq0-clause-over
returns-then-self-eq0-clause-over g c = λ slice limit first played.
    let none = c.if-self-eq0.true in
    played_up g.S.SwapSlot.content g.S.SwapSlot.honest g.S.SwapSlot.failures slice limit first c.args.core.now c.args.self.now played (omega (arith, none))

pub returns-in_default-clause-over : goal.returns-in_default-clause-over
returns-in_default-clause-over g c = λ slice limit first played.
    played_out g.S.SwapSlot.content g.S.SwapSlot.honest g.S.SwapSlot.failures slice limit first c.args.core.now c.args.core.now c.args.self.now
    played refl c.in_default.ensures.settled c.in_default.ensures.none

pub returns-clause-goes_on : goal.returns-clause-goes_on
returns-clause-goes_on g c = λ slice limit first played.
    let some = c.if-self-eq0.false in
    played_more g.S.SwapSlot.content g.S.SwapSlot.honest g.S.SwapSlot.failures slice limit first c.args.core.now c.act_once-told.new.core c.args.self.now _ played (omega (arith, some)) c.act_once-told.ensures.plays
