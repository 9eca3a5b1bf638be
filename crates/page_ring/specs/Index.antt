-- An index from a page to its node.
use Rattle.std.specs.Prelude.{◌≡◌, ◌≤◌, ◌⊎◌, ℕ, Bool, true, false, cond, List, [], ◌∷◌, Option, Some, None}
use Rattle.std.specs.Option.{option_or}
use Rattle.std.specs.HashMap.{get_by}
use Rattle.clock_policy.specs.declared.key.Key.{Key}
use Rattle.clock_policy.specs.declared.entry.Entry.{Entry}
use Rattle.clock_policy.specs.ClockPro.{has_key, number}
use Rattle.page_ring.specs.Linked.{Cell}
use Rattle.page_ring.specs.Slots.{same_key, in_slot}
use Rattle.page_ring.specs.declared.node_index.NodeIndex.{NodeIndex}

abbrev pub entries_of : List Cell → List Entry
entries_of [] = []
entries_of (c ∷ cs) = c.entry ∷ entries_of cs

-- the node of a page
abbrev pub at_of : Key → List Cell → Option ℕ
at_of k [] = None
at_of k (c ∷ cs) = cond (has_key k c.entry) (Some c.at) (at_of k cs)

-- no page has two cells
abbrev pub DistinctPages : List Cell → Type 0
DistinctPages cs = (k : Key) → number (has_key k) (entries_of cs) ≤ 1

-- the node of a page by the index: in its slot, or else in the map
abbrev pub node_of : Key → NodeIndex → Option ℕ
node_of k p = option_or (in_slot p.slots.items k) (get_by (same_key k) p.others)

-- no page is in its slot and in the map
abbrev pub Parted : NodeIndex → Type 0
Parted p = (k : Key) → in_slot p.slots.items k ≡ None ⊎ get_by (same_key k) p.others ≡ None

-- what a look-up tells of a page is its node; or nothing, where look-ups may lack pages
abbrev pub Finds : Bool → Option ℕ → Option ℕ → Type 0
Finds false told is = told ≡ is
Finds true told is = (told ≡ None) ⊎ (told ≡ is)

-- look-ups find each page's node, but those that they lack, and nothing else
pub record FindsNodes (cs : List Cell) (lacks : Bool) (look : Key → Option ℕ) : Type 0 where
  pub found : (k : Key) → Finds lacks (look k) (at_of k cs)
  pub distinct : DistinctPages cs

-- the index finds each page's node, but those of pages for which it found no room
pub record Indexed (cs : List Cell) (lacks : Bool) (p : NodeIndex) : Type 0 where
  pub indexes : FindsNodes cs lacks (λ k. node_of k p)
  pub parted : Parted p
