-- The writer of a cell, as callers see it.
use Rattle.atomic_table.specs.Seated.{TableId}
use Rattle.status_cell.specs.declared.status.Status.{Status}

-- what callers see of a writer: which cell it publishes into, and the pair that it published last
pub record WriterValue : Type 0 where
  pub cell : TableId
  pub last : Status
