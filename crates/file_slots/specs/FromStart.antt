use Rattle.std.specs.Prelude.{◌≡◌, ℕ, Option, Some, IfSome}

-- what was done to a file from its start on: it was taken there first, where its position is known
pub record FromStart {F : Type 0} (position : F → Option ℕ) (Done : F → F → Type 0) (old new : F) : Type 0 where
  pub start : F
  pub rewound : IfSome (position old) (λ _. position start ≡ Some 0)
  pub done : Done start new
