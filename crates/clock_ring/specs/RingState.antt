-- A circle of cells with its hands and counts.
use Rattle.std.specs.Prelude.{◌≡◌, ℕ, ◌+◌, ◌*◌, ◌≤◌, true, ◌==◌, cond, Option, Some, None, List, [], ◌∷◌, ◌++◌, length}
use Rattle.std.specs.Coded.{×_prop, Unit-prop}
use Rattle.std.proofs.Props.{props}
use Rattle.clock_policy.specs.declared.key.Key.{Key}
use Rattle.clock_policy.specs.declared.entry.Entry.{Entry}
use Rattle.clock_policy.specs.ClockPro.{found_key, is_hot, is_cold, is_shadow, hot_count, cold_count, shadow_count}
use Rattle.clock_policy.specs.declared.entry.EntryKind.{EntryKind}
use Rattle.clock_policy.specs.declared.entry.EntryKind.TheVariants.{Hot, Test, Cold, Shadow}
use Rattle.page_ring.specs.Chain.{of_kind}
use Rattle.page_ring.specs.Linked.{Cell, DistinctNodes, is_at}
use Rattle.page_ring.specs.Index.{entries_of, DistinctPages}
use Rattle.clock_ring.specs.declared.counts.Counts.{Counts}

-- the entry of a node
abbrev pub entry_at_node : List Cell → ℕ → Option Entry
entry_at_node [] n = None
entry_at_node (c ∷ cs) n = cond (c.at == n) (Some c.entry) (entry_at_node cs n)

-- the page of the node that a hand points to
abbrev pub hand_at : List Cell → ℕ → Option Key
hand_at cs n = found_key (entry_at_node cs n)

-- the cells from a node on, once round
abbrev pub from_at : List Cell → ℕ → List Cell
from_at [] n = []
from_at (c ∷ cs) n = cond (c.at == n) (c ∷ cs) (from_at cs n)

abbrev pub before_at : List Cell → ℕ → List Cell
before_at [] n = []
before_at (c ∷ cs) n = cond (c.at == n) [] (c ∷ before_at cs n)

abbrev pub around : List Cell → ℕ → List Cell
around cs n = from_at cs n ++ before_at cs n

-- a hand points to a node of the circle, or anywhere if the circle has no node
abbrev pub Rests : List Cell → ℕ → Type 0
Rests [] n = Unit {0}
Rests (c ∷ cs) n = is_at (c ∷ cs) n ≡ true

-- no node and no page has two cells, and the hands rest
pub record Whole (cs : List Cell) (cold test : ℕ) : Type 0 where
  pub apart : DistinctNodes cs
  pub distinct : DistinctPages cs
  pub cold_rests : Rests cs cold
  pub test_rests : Rests cs test

Apart-prop : (cs : List Cell) → IsProp (DistinctNodes cs)
Apart-prop [] = Unit-prop
Apart-prop (c ∷ cs) = ×_prop (Prim.hlevel props) (Apart-prop cs)

Rests-prop : (cs : List Cell) (n : ℕ) → IsProp (Rests cs n)
Rests-prop [] n = Unit-prop
Rests-prop (c ∷ cs) n = Prim.hlevel props

Whole-prop : (cs : List Cell) (cold test : ℕ) → IsProp (Whole cs cold test)
Whole-prop cs cold test = Prim.hlevel (props, Apart-prop, Rests-prop)

-- so many entries of each kind
pub record Counted (n : Counts) (cs : List Cell) : Type 0 where
  pub hot : n.hot ≡ hot_count (entries_of cs)
  pub cold : n.cold ≡ cold_count (entries_of cs)
  pub shadows : n.shadows ≡ shadow_count (entries_of cs)

-- what holds of the circle with its hands and counts between the moves
pub record Kept (cs : List Cell) (cold test : ℕ) (n : Counts) (frames : ℕ) : Type 0 where
  pub whole : Whole cs cold test
  pub counted : Counted n cs
  pub within : length cs ≤ 2 * frames

-- there is one proof of it, as a field needs
pub Kept-prop : (cs : List Cell) (cold test : ℕ) (n : Counts) (frames : ℕ) → IsProp (Kept cs cold test n frames)
Kept-prop cs cold test n frames = Prim.hlevel (props, Whole-prop)

-- an entry of this kind more, or less
pub record More (old new : Counts) (kind : EntryKind) : Type 0 where
  pub hot : new.hot ≡ old.hot + cond (is_hot kind) 1 0
  pub cold : new.cold ≡ old.cold + cond (is_cold kind) 1 0
  pub shadows : new.shadows ≡ old.shadows + cond (is_shadow kind) 1 0

-- there is an entry of this kind
pub record HasOne (n : Counts) (kind : EntryKind) : Type 0 where
  pub hot : cond (is_hot kind) 1 0 ≤ n.hot
  pub cold : cond (is_cold kind) 1 0 ≤ n.cold
  pub shadows : cond (is_shadow kind) 1 0 ≤ n.shadows

-- what the hot hand leaves of a front that it passes
abbrev pub passed_as : EntryKind → Cell → List Cell
passed_as Hot c = c ∷ []
passed_as Test c = of_kind Cold c ∷ []
passed_as Cold c = c ∷ []
passed_as Shadow c = []

abbrev pub passed_list : List Cell → List Cell
passed_list [] = []
passed_list (c ∷ cs) = cs ++ passed_as c.entry.kind c

-- an entry's kind once its test has ended
abbrev pub ended_kind : EntryKind → EntryKind
ended_kind Hot = Hot
ended_kind Test = Cold
ended_kind Cold = Cold
ended_kind Shadow = Shadow
