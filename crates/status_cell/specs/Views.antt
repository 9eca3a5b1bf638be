-- What a cell's writer and viewers know of its pair.
use Rattle.std.specs.Prelude.{◌≡◌, ℕ, true, false, List}
use mathlib.Core.Option.{some}
use lib.ListN.{get_elem?}
use Rattle.status_cell.specs.declared.status.Status.{Status}
use Rattle.status_cell.specs.declared.rule.Known.{Known}
use Rattle.status_cell.specs.Counts.{AtMost, nothing}

-- a viewer that has seen this pair
abbrev pub view_of : Status → Known
view_of status = record { writes = false; status = status }

-- the writer of a new cell
abbrev pub opening : Known
opening = record { writes = true; status = nothing }

-- The rule of the cell: no view is above the pair in it, and the writer, who has the first pass, knows that pair
abbrev pub NoneAbove : Status → List Known → Type 0
NoneAbove pair views =
    (pass : ℕ) (v : Known) → get_elem? views pass ≡ some v
    → AtMost v.status pair × (v.writes ≡ true → (pass ≡ 0) × (v.status ≡ pair))
