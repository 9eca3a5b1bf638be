-- Which processes of a machine have ended.
use Rattle.std.specs.Prelude.{◌≡◌, ℕ, Some, IsSome, slice_get}
use Rattle.machine_core.specs.Machine.{CoreValue}
use Rattle.space_core.specs.StandsFor.{SpaceValue}

-- the process of this number has ended, if there is one
abbrev pub HasEnded : {S : Type 0} → CoreValue S → ℕ → Type 0
HasEnded {S} core number = (process : SpaceValue S) → slice_get core.processes number ≡ Some process → IsSome process.running.ending
