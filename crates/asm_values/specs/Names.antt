-- Tables of names. A name is its bytes.
use Rattle.std.specs.Prelude.{ℕ, List, Option, option_map, find}
use Rattle.std.specs.Str.{bytes_eq}

-- what a table has for a name
unfoldable pub named : {A : Type 0} → List (List ℕ × A) → List ℕ → Option A
named table name = option_map (λ entry. entry.1) (find (λ entry. bytes_eq entry.0 name) table)
