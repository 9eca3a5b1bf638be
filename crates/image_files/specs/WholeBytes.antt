-- Inputs that are read whole, and files that take all bytes of what they are made of.
use Rattle.std.specs.Prelude.{◌≡◌, ℕ, List, IfSome, Option}
use Rattle.std.specs.Io.KnownBytes.{Appends}

-- all bytes of an input, where those are known
abbrev pub AreWhole : Option (List ℕ) → List ℕ → Type 0
AreWhole known bytes = IfSome known (λ all. bytes ≡ all)

-- these are all bytes that an open file still had; `remaining` gives those of a file, where they are known
pub record AreRead {F : Type 0} (remaining : F → Option (List ℕ)) (bytes : List ℕ) : Type 0 where
  pub file : F
  pub whole : AreWhole (remaining file) bytes

-- an open file took all these bytes; `contents` gives those that a file holds, where they are known
pub record AreTaken {F : Type 0} (contents : F → Option (List ℕ)) (bytes : List ℕ) : Type 0 where
  pub old : F
  pub new : F
  pub written : Appends (contents old) (contents new) bytes
