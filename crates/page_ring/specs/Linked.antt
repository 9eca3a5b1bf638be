-- A circle by links: cells, each the key of a node with its entry, whose nodes name their neighbours.
use Rattle.std.specs.Prelude.{◌≡◌, ◌≢◌, ℕ, Bool, false, ◌==◌, ◌||◌, List, [], ◌∷◌, Some}
use Rattle.slab.specs.Slab.{Slab, get}
use Rattle.clock_policy.specs.declared.entry.Entry.{Entry}
use Rattle.page_ring.specs.declared.links.Node.{Node}

pub record Cell : Type 0 where
  pub at : ℕ
  pub entry : Entry

abbrev pub first_at : List Cell → ℕ → ℕ
first_at [] n = n
first_at (c ∷ cs) n = c.at

abbrev pub last_at : ℕ → List Cell → ℕ
last_at n [] = n
last_at n (c ∷ cs) = last_at c.at cs

abbrev pub is_at : List Cell → ℕ → Bool
is_at [] n = false
is_at (c ∷ cs) n = (c.at == n) || is_at cs n

-- no node has two cells
abbrev pub DistinctNodes : List Cell → Type 0
DistinctNodes [] = Unit {0}
DistinctNodes (c ∷ cs) = (is_at cs c.at ≡ false) × DistinctNodes cs

-- a way through the cells: before it stands the node p, behind it n
abbrev pub Linked : Slab Node → ℕ → List Cell → ℕ → Type 0
Linked s p [] n = Unit {0}
Linked s p (c ∷ cs) n = (get s c.at ≡ Some (record { entry = c.entry; next = first_at cs n; previous = p })) × Linked s c.at cs n

-- the way closes
pub record Circle (s : Slab Node) (cs : List Cell) : Type 0 where
  pub linked : Linked s (last_at 0 cs) cs (first_at cs 0)
  pub apart : DistinctNodes cs

-- a node has become this by f, and every other is what it was
pub record Changes (s t : Slab Node) (at : ℕ) (f : Node → Node) : Type 0 where
  pub set : (node : Node) → get s at ≡ Some node → get t at ≡ Some (f node)
  pub others : (k : ℕ) → k ≢ at → get t k ≡ get s k

-- a node with other neighbours
abbrev pub with_next : ℕ → Node → Node
with_next n node = record node { next = n }

abbrev pub with_previous : ℕ → Node → Node
with_previous n node = record node { previous = n }
