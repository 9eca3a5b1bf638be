use Rattle.std.proofs.Common.{ℕ, ◌<◌, ◌≤◌}
use Rattle.serial_driver.specs.Endings.{HasEnded}
use Rattle.serial_driver.proofs.harts.first_running.Given as goal

abbrev pub invariant-processes : goal.invariant-processes
invariant-processes g l = (number : ℕ) → l.from ≤ number → number < l.process → HasEnded l.core number
