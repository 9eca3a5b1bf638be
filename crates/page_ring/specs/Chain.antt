-- What links stand for: their cells from the front on, and how many nodes fit.
use Rattle.std.specs.Prelude.{◌≡◌, ℕ, zero, suc, List, [], ◌∷◌, ◌++◌, length, Option, Some, None}
use Rattle.slab.specs.Slab.{Slab, get, slab_len}
use Rattle.clock_policy.specs.declared.entry.EntryKind.{EntryKind}
use Rattle.page_ring.specs.declared.links.Node.{Node}
use Rattle.page_ring.specs.Linked.{Cell, first_at, Circle}

pub record Chain : Type 0 where
  pub cells : List Cell
  pub room : ℕ

-- the cells told from another one of them on, clockwise
pub data Rotates (cs : List Cell) : List Cell → Type 0 where
  same : Rotates cs cs
  turn : (a b : List Cell) → Rotates cs (a ++ b) → Rotates cs (b ++ a)

abbrev pub cell_then : Option Node → ℕ → (ℕ → List Cell) → List Cell
cell_then None at more = []
cell_then (Some node) at more = record { at = at; entry = node.entry } ∷ more node.next

-- so many cells, by links from a node on
abbrev pub cells_from : Slab Node → ℕ → ℕ → List Cell
cells_from s zero at = []
cells_from s (suc n) at = cell_then (get s at) at (cells_from s n)

unfoldable pub cells_of : Slab Node → ℕ → List Cell
cells_of s front = cells_from s (slab_len s) front

-- the nodes are one circle of these cells, from the front on
pub record Held (s : Slab Node) (front : ℕ) (cs : List Cell) : Type 0 where
  pub circle : Circle s cs
  pub count : length cs ≡ slab_len s
  pub first : first_at cs front ≡ front

abbrev pub of_kind : EntryKind → Cell → Cell
of_kind kind c = record { at = c.at; entry = record { key = c.entry.key; kind = kind } }
