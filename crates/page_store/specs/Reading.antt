-- The bytes that a read of a page gives.
use Rattle.std.specs.Prelude.{ℕ, List, Option, Some, map, take, drop}

-- so many of some bytes from an offset on, each of which is there
unfoldable pub some_from : List ℕ → ℕ → ℕ → List (Option ℕ)
some_from bytes offset count = map Some (take count (drop offset bytes))
