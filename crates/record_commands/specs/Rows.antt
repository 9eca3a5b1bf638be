-- Tables of what runs came to: a row for each ending and output, in the order in which these came.
use Rattle.std.specs.Prelude.{◌≡◌, ℕ, ◌+◌, ◌<◌, ◌⊎◌, ⊤, List, [], ◌∷◌, length, take, slice_index_or, Option, Some, None}
use Rattle.run_records.specs.declared.record.Closing.{Closing}
use Rattle.record_commands.specs.declared.row.Row.{Row}

-- a run ended as those of a row did, and wrote the same
pub record IsLike (closing : Closing) (row : Row) : Type 0 where
  pub end : row.end ≡ closing.end
  pub output : row.output ≡ closing.output

-- the row of one run
abbrev pub row_of : ℕ → Closing → Row
row_of seed closing = record { end = closing.end; output = closing.output; seed = seed; times = 1 }

-- the row of one run more, which is like the others
abbrev pub more : Row → Row
more row = record row { times = row.times + 1 }

-- a run of this seed is counted in the row that it is like, or begins a row after the others
unfoldable pub Counts : ℕ → Closing → List Row → List Row → Type 0
Counts seed closing [] new = new ≡ row_of seed closing ∷ []
Counts seed closing (row ∷ rows) new =
    (IsLike closing row × (new ≡ more row ∷ rows)) ⊎ ((¬ IsLike closing row) × ((later : List Row) × ((new ≡ row ∷ later) × Counts seed closing rows later)))

-- rows are fewer than are wanted, where a number is
abbrev pub GoesOn : Option ℕ → List Row → Type 0
GoesOn None rows = ⊤
GoesOn (Some until) rows = length rows < until

-- These runs, the last one first, were counted one after another, from this seed on, each while the rows were fewer than are wanted.
unfoldable pub Tallies : Option ℕ → ℕ → List Closing → List Row → Type 0
Tallies until seed [] rows = rows ≡ []
Tallies until seed (closing ∷ earlier) rows =
    (before : List Row) × (Tallies until seed earlier before × (GoesOn until before × Counts (seed + length earlier) closing before rows))

-- how many runs the rows count
unfoldable pub times_of : List Row → ℕ
times_of [] = 0
times_of (row ∷ rows) = row.times + times_of rows

-- a run is like none of these
unfoldable pub AreUnlike : Closing → List Row → Type 0
AreUnlike closing [] = ⊤
AreUnlike closing (row ∷ rows) = (¬ IsLike closing row) × AreUnlike closing rows

-- the row at a place is the first that a run is like
pub record IsFirstLike (closing : Closing) (rows : List Row) (place : ℕ) : Type 0 where
  pub row : Row
  pub there : place < length rows
  pub row_is : row ≡ slice_index_or rows place row
  pub like : IsLike closing row
  pub unlike : AreUnlike closing (take place rows)
