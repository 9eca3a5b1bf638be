use Rattle.std.proofs.Common.{◌+◌, ◌-◌, ◌*◌}
use Rattle.serial_driver.specs.TurnsDuty.{duty_of}
use Rattle.serial_driver.proofs.StepsLimited.{Playing}
use Rattle.serial_driver.proofs.steps.is_stuck.Given as goal

abbrev pub invariant-tries : goal.invariant-tries
invariant-tries g l = Playing g.S.SwapSlot.content g.S.SwapSlot.honest g.S.SwapSlot.failures l.fn.turns.slice l.process l.limit l.idle l.done l.fn.core l.core l.patience (duty_of l.turns)

abbrev pub decreases-tries : goal.decreases-tries
decreases-tries g l = (l.limit - l.done) * 18446744073709551616 + l.idle
