-- Checkpoints: where they are on a path, and which of them stay.
use Rattle.std.specs.Prelude.{◌≡◌, ℕ, ◌<◌, ◌≤◌, nat_le, Bool, List, Some, All}
use Rattle.flat_machine.specs.Process.{opening}
use Rattle.run_paths.specs.Paths.{along, first_place, HasTurn}
use Rattle.run_paths.specs.declared.path.Stretch.{Stretch}
use Rattle.run_paths.specs.declared.program.Program.{Program}
use Rattle.run_paths.specs.declared.running.Place.{Place}
use Rattle.guest_history.specs.declared.checkpoints.Checkpoint.{Checkpoint}
use Rattle.guest_history.specs.declared.checkpoints.Checkpoints.{Checkpoints}

-- where a program begins
abbrev pub beginning : Program → Place
beginning program = first_place (opening program.image program.input.items)

-- a checkpoint is after so many of the known steps
pub record IsKept (program : Program) (path : List Stretch) (total : ℕ) (kept : Checkpoint) : Type 0 where
  pub led : along path kept.done (beginning program) ≡ Some kept.place
  pub live : HasTurn kept.place
  pub within : kept.done ≤ total

pub record AreKept (program : Program) (path : List Stretch) (total : ℕ) (kept : Checkpoints) : Type 0 where
  pub copies : All (IsKept program path total) kept.copies.items
  pub spaced : 0 < kept.spacing

-- whether a number of steps is not above another
abbrev pub is_at_most : ℕ → ℕ → Bool
is_at_most most done = nat_le done most
