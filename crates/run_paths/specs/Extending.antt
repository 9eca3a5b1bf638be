-- A path that grows.
use Rattle.std.specs.Prelude.{◌≡◌, ℕ, ◌+◌, ◌<◌, ◌≤◌, Bool, true, List, [], ◌∷◌, length, Option, Some, None}
use Rattle.run_paths.specs.declared.path.Whose.{Whose}
use Rattle.run_paths.specs.declared.path.Stretch.{Stretch}
use Rattle.run_paths.specs.declared.path.Path.{Path}
use Rattle.run_paths.specs.Paths.{whose_at, steps_of}

-- a path has as many steps as it says
abbrev pub IsCounted : Path → Type 0
IsCounted path = steps_of path.stretches.items ≡ path.total

-- two paths have the same first steps, so many
abbrev pub AreSame : ℕ → List Stretch → List Stretch → Type 0
AreSame count old new = (i : ℕ) → i < count → whose_at new i ≡ whose_at old i

-- so many steps come after so many others, which are as before
pub record Extends (old : Path) (done : ℕ) (whose : Whose) (count : ℕ) (is_kept : Bool) (new : Path) : Type 0 where
  pub counted : IsCounted new
  pub reached : done + count ≤ new.total
  pub before : AreSame done old.stretches.items new.stretches.items
  pub added : (i : ℕ) → i < count → whose_at new.stretches.items (done + i) ≡ Some whose
  -- no step was forgotten
  pub kept : is_kept ≡ true → (old.total ≤ new.total) × AreSame old.total old.stretches.items new.stretches.items

-- whose the last stretch is
unfoldable pub last_whose : List Stretch → Option Whose
last_whose [] = None
last_whose (stretch ∷ []) = Some stretch.whose
last_whose (stretch ∷ (next ∷ path)) = last_whose (next ∷ path)

-- the last stretch, and all steps of a path after so many, are of this kind: by turns, or of a hart
pub record GoesOn (path : List Stretch) (done : ℕ) (whose : Whose) : Type 0 where
  pub some : 0 < length path
  pub last : last_whose path ≡ Some whose
  pub all : (i : ℕ) → done ≤ i → i < steps_of path → whose_at path i ≡ Some whose

-- the last stretch is longer, so that the path ends after so many steps, if it ended before
pub record Lengthens (old : Path) (end : ℕ) (new : Path) : Type 0 where
  pub counted : IsCounted new
  pub reached : end ≤ new.total
  pub longer : old.total ≤ new.total
  pub kept : AreSame old.total old.stretches.items new.stretches.items
  pub added : (i : ℕ) → old.total ≤ i → i < end → whose_at new.stretches.items i ≡ last_whose old.stretches.items
