use Rattle.std.specs.Prelude.{ℕ, List}

-- what callers see of a slot of whose calls one fails: the page that it holds, which of the calls to come fails, counted from 1
-- (0 means none), and how many have failed
pub record BlinkValue : Type 0 where
  pub content : List ℕ
  pub failing : ℕ
  pub failures : ℕ
