use Rattle.std.specs.Prelude.{ℕ, List}

-- what callers see of a pool: the slots that are free, and of how many slots it was made
pub record PoolValue (S : Type 0) : Type 0 where
  pub free : List S
  pub size : ℕ
