-- The names of slots' files.
use Rattle.std.specs.Prelude.{ℕ, List, ◌++◌, codes}
use Rattle.std.specs.Fmt.{decimal}

-- the name of a slot's file: a prefix, a point and the slot's number in decimal
abbrev pub file_name : List ℕ → ℕ → List ℕ
file_name prefix number = prefix ++ codes "." ++ decimal number
