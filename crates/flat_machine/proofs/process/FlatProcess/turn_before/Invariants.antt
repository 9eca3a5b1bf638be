use Rattle.std.proofs.Common.{◌≡◌, ◌<◌, ℕ, true}
use Rattle.flat_machine.specs.Process.{is_live}
use Rattle.flat_machine.specs.ByTurns.{turn_after}
use Rattle.flat_machine.proofs.process.FlatProcess.turn_before.Given as goal

-- none of the harts below comes before
abbrev pub invariant-harts : goal.invariant-harts
invariant-harts l = (below : ℕ) → below < l.hart → is_live below l.self ≡ true → turn_after below l.self ≡ l.turn → ⊥
