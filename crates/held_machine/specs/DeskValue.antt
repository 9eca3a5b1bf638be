-- What the pager's lock protects.
use Rattle.std.specs.Prelude.{ℕ, ◌/◌, Bool, max}
use Rattle.machine_sides.specs.Sides.{PagerSideValue}

-- the pager, and whether only what events of the machine give has happened so far
pub record DeskValue : Type 0 where
  pub pager : PagerSideValue
  pub sound : Bool

-- so many frames, at least, are to be free
abbrev pub frames_wanted : ℕ → ℕ
frames_wanted size = max 1 (size / 16)
