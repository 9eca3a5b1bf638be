-- No live hart so far was above the last one.
use Rattle.std.proofs.Common.{◌≡◌, ℕ, ◌<◌, false}
use Rattle.serial_driver.specs.Rounds.{IsAbove, lives_in}
use Rattle.serial_driver.proofs.harts.live_hart_above.Given as goal

abbrev pub invariant-harts : goal.invariant-harts
invariant-harts g l = (other : ℕ) → other < l.hart → IsAbove l.last other → lives_in l.core l.process other ≡ false
