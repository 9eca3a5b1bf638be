use Rattle.std.specs.Prelude.{ℕ, List}

-- what callers see of a slot with a fuse: the page that it holds, how many calls still pass, and how many have failed
pub record FuseValue : Type 0 where
  pub content : List ℕ
  pub left : ℕ
  pub failures : ℕ
