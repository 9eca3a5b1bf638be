use Rattle.std.specs.Prelude.{ℕ}

-- what callers see of a slot in a file: its number, the open file, and how many calls have failed
pub record FileSlotValue (F : Type 0) : Type 0 where
  pub number : ℕ
  pub file : F
  pub failures : ℕ
