-- A viewer of a cell, as callers see it.
use Rattle.atomic_table.specs.Seated.{TableId}
use Rattle.status_cell.specs.declared.status.Status.{Status}

-- what callers see of a viewer: which cell it looks at, and the last pair that it has seen or was given
pub record ViewerValue : Type 0 where
  pub cell : TableId
  pub seen : Status

abbrev pub viewer_value : TableId → Status → ViewerValue
viewer_value cell seen = record { cell = cell; seen = seen }
