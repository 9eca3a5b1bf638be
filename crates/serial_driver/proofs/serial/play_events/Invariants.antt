use Rattle.std.proofs.Common.{◌≡◌, ℕ, ◌+◌, ◌*◌, None}
use Rattle.serial_driver.specs.Limit.{PlaysWith}
use Rattle.serial_driver.specs.Owing.{no_duty}
use Rattle.serial_driver.specs.Patience.{tries_per_frame}
use Rattle.serial_driver.specs.TurnsDuty.{duty_of}
use Rattle.serial_driver.proofs.serial.play_events.Given as goal

abbrev pub invariant-turns : goal.invariant-turns
invariant-turns g l = (count : ℕ) × ((count + l.left ≡ l.limit)
    × PlaysWith g.S.SwapSlot.content g.S.SwapSlot.honest g.S.SwapSlot.failures (tries_per_frame * l.initial.core.pager.pager.size) (λ _. 0) (no_duty l.fn.turns.slice) None count l.initial.core l.core l.patience (duty_of l.turns))

abbrev pub decreases-turns : goal.decreases-turns
decreases-turns g l = l.left
