-- What callers see of a save: the page that it is of, the copy of its bytes, and the slot.
use Rattle.std.specs.Prelude.{ℕ, Bool, List}

pub record JobValue (S : Type 0) : Type 0 where
  pub process : ℕ
  pub vpn : ℕ
  pub copy : List ℕ
  pub slot : S

-- the same once the slot was written to, and whether the device passed it
pub record SavedValue (S : Type 0) : Type 0 where
  pub process : ℕ
  pub vpn : ℕ
  pub copy : List ℕ
  pub slot : S
  pub passed : Bool
