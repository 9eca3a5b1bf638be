-- Runs by turns, one after another.
use Rattle.std.proofs.Common.{◌≡◌, ◌+◌, ℕ, Some, ◌∙◌}
use Rattle.flat_machine.specs.Process.{Process}
use Rattle.flat_machine.specs.ByTurns.{by_turns}
use Rattle.flat_machine.proofs.RunLaws.{by_turns_append}

pub more_turns : (n m hart turn last : ℕ) (before between after : Process) → by_turns n hart before ≡ Some (turn, between) → by_turns m turn between ≡ Some (last, after)
    → by_turns (n + m) hart before ≡ Some (last, after)
more_turns n m hart turn last before between after first second = by_turns_append n m hart turn before between first ∙ second
