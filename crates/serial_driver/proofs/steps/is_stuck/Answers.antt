-- Each try plays as many events as the process has steps to do.
use Rattle.std.proofs.Common.{◌-◌, arith}
use Rattle.serial_driver.specs.TurnsDuty.{duty_of}
use Rattle.serial_driver.proofs.StepsLimited.{grown, playing_none, playing_more, playing_ended}
use Rattle.serial_driver.proofs.steps.is_stuck.Goals as goal

pub tries-init : goal.tries-init
tries-init g c =
    playing_none g.S.SwapSlot.content g.S.SwapSlot.honest g.S.SwapSlot.failures c.args.turns.now.slice c.args.process c.args.limit c.steps_done-done.result c.args.core.now c.args.patience.now (duty_of c.args.turns.now)
    c.requires.patient c.requires.spent c.requires.free c.steps_done-done.ensures

pub returns-then-go_on : goal.returns-then-go_on
returns-then-go_on g c =
    playing_ended g.S.SwapSlot.content g.S.SwapSlot.honest g.S.SwapSlot.failures c.args.turns.now.slice c.args.process c.args.limit c.tries.idle c.tries.done c.args.core.now c.tries.core c.go_on.new.core
    c.tries.patience c.go_on.new.patience (duty_of c.tries.turns) (duty_of c.go_on.new.turns) c.tries.invariant c.go_on.result (c.go_on.ensures _ _ c.tries.invariant.plays.patient) c.tries-test.true c.if-go_on.true

pub tries-preserved-then-now-done : goal.tries-preserved-then-now-done
tries-preserved-then-now-done g c =
    let fits = c.tries.auto.idle-fits in
    playing_more g.S.SwapSlot.content g.S.SwapSlot.honest g.S.SwapSlot.failures c.args.turns.now.slice c.args.process c.args.limit c.tries.idle c.tries.done c.args.core.now c.tries.core c.go_on.new.core
    c.tries.patience c.go_on.new.patience (duty_of c.tries.turns) (duty_of c.go_on.new.turns) c.tries.invariant c.go_on.result (c.go_on.ensures _ _ c.tries.invariant.plays.patient) c.tries-test.true
    18446744073709551615 c.steps_done-now.result c.if-go_on.false c.steps_done-now.ensures (omega (arith, fits))

pub tries-preserved : goal.tries-preserved
tries-preserved g c =
    playing_more g.S.SwapSlot.content g.S.SwapSlot.honest g.S.SwapSlot.failures c.args.turns.now.slice c.args.process c.args.limit c.tries.idle c.tries.done c.args.core.now c.tries.core c.go_on.new.core
    c.tries.patience c.go_on.new.patience (duty_of c.tries.turns) (duty_of c.go_on.new.turns) c.tries.invariant c.go_on.result (c.go_on.ensures _ _ c.tries.invariant.plays.patient) c.tries-test.true
    (c.tries.idle - 1) c.steps_done-now.result c.if-go_on.false c.steps_done-now.ensures (omega arith)

pub tries-smaller : goal.tries-smaller
tries-smaller g c =
    let least = grown g.S.SwapSlot.content g.S.SwapSlot.honest g.S.SwapSlot.failures c.args.turns.now.slice c.args.process c.args.limit c.tries.idle c.tries.done c.args.core.now c.tries.core c.go_on.new.core
    c.tries.patience c.go_on.new.patience (duty_of c.tries.turns) (duty_of c.go_on.new.turns) c.tries.invariant c.go_on.result (c.go_on.ensures _ _ c.tries.invariant.plays.patient) c.tries-test.true in
    let now = c.steps_done-now.ensures in
    let some = c.if-idle-eq0.false in
    omega (arith, least, now, some)
