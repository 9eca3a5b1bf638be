use Rattle.std.proofs.Common.{◌≡◌, ℕ, ◌<◌, ◌≤◌, slice_get}
use Rattle.serial_driver.specs.Endings.{HasEnded}
use Rattle.serial_driver.specs.Limit.{ClosesBelow}
use Rattle.serial_driver.proofs.serial.end_all.Given as goal

abbrev pub invariant-processes : goal.invariant-processes
invariant-processes g l = record {
  closes : ClosesBelow g.S.SwapSlot.content g.S.SwapSlot.honest g.S.SwapSlot.failures l.process l.initial.core l.core;
  same : (number : ℕ) → l.process ≤ number → slice_get l.core.processes number ≡ slice_get l.initial.core.processes number;
  ended : (number : ℕ) → number < l.process → HasEnded l.core number;
}
