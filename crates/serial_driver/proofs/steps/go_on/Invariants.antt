use Rattle.std.proofs.Common.{ℕ, ◌-◌, ◌≤◌}
use Rattle.serial_driver.specs.Limit.{PlaysWith}
use Rattle.serial_driver.specs.Patience.{IsPatient}
use Rattle.serial_driver.specs.TurnsDuty.{duty_of}
use Rattle.serial_driver.proofs.steps.go_on.Given as goal

abbrev pub invariant-events : goal.invariant-events
invariant-events g l = record {
  within : l.left ≤ l.most;
  plays : (bound : ℕ) (tried : ℕ → ℕ) → IsPatient bound tried l.fn.patience
      → PlaysWith g.S.SwapSlot.content g.S.SwapSlot.honest g.S.SwapSlot.failures bound tried (duty_of l.fn.turns) l.fn.patience.spent (l.most - l.left) l.fn.core l.core l.patience (duty_of l.turns);
}

abbrev pub decreases-events : goal.decreases-events
decreases-events g l = l.left
