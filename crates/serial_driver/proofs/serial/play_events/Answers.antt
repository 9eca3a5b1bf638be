-- As many events are left as the limit allows beyond those that happened.
use Rattle.std.proofs.Common.{◌+◌, refl, arith}
use Rattle.serial_driver.proofs.Limited.{plays_none, plays_more}
use Rattle.serial_driver.proofs.Stopped.{plays_to_end, plays_to_limit}
use Rattle.serial_driver.specs.TurnsDuty.{duty_of}
use Rattle.serial_driver.proofs.serial.play_events.Goals as goal

pub turns-init : goal.turns-init
turns-init g c = (0, (omega arith, plays_none g.S.SwapSlot.content g.S.SwapSlot.honest g.S.SwapSlot.failures _ _ _ _ _ c.args.core.now c.args.patience.now c.requires.patient c.requires.spent c.requires.free))

pub turns-preserved : goal.turns-preserved
turns-preserved g c =
    let sum = c.turns.invariant.1.0 in
    let least = c.act-left.ensures.within in
    let most = c.in-Some.ensures.next.1.0 in
    let before = c.turns.invariant.1.1 in (
      c.turns.invariant.0 + c.act-left.result,
      (
        omega (arith, sum, least, most),
        plays_more g.S.SwapSlot.content g.S.SwapSlot.honest g.S.SwapSlot.failures _ _ _ _ _ _ c.turns.invariant.0 c.act-left.result _ c.args.core.now c.turns.core c.act-left.new.core c.turns.patience c.act-left.new.patience
            before (c.act-left.ensures.plays _ _ before.patient) refl,
      ),
    )

pub returns-in_default : goal.returns-in_default
returns-in_default g c =
    plays_to_end g.S.SwapSlot.content g.S.SwapSlot.honest g.S.SwapSlot.failures c.args.turns.now.slice c.args.limit c.turns.invariant.0 c.turns.left (duty_of c.turns.turns) c.args.core.now c.turns.core c.turns.patience
    c.turns.invariant.1.0 c.turns.invariant.1.1 c.in_default.ensures.settled c.in_default.ensures.none

pub returns : goal.returns
returns g c =
    plays_to_limit g.S.SwapSlot.content g.S.SwapSlot.honest g.S.SwapSlot.failures c.args.turns.now.slice c.args.limit c.turns.invariant.0 c.turns.left (duty_of c.turns.turns) c.args.core.now c.turns.core c.turns.patience c.unsaved.result
    c.turns.invariant.1.0 c.turns-test.false c.turns.invariant.1.1 c.unsaved.ensures
