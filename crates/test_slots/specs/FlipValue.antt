use Rattle.std.specs.Prelude.{ℕ, List}

-- what callers see of a slot that lies once: the page that it holds, and which of the loads to come answers another, counted from 1
-- (0 means none)
pub record FlipValue : Type 0 where
  pub content : List ℕ
  pub flipping : ℕ
