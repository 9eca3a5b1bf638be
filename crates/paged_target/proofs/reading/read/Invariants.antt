use Rattle.std.proofs.Common.{◌≡◌, ◌≤◌, ◌-◌, ◌++◌, length, drop}
use Rattle.debug_core.specs.Points.{bytes_from}
use Rattle.paged_target.specs.Reads.{KeepsShown}
use Rattle.paged_target.specs.Shown.{flat_at}
use Rattle.paged_target.proofs.reading.read.Given as goal

-- the pages so far are read, and the other bytes as before; the same process is shown
abbrev pub invariant-pages : goal.invariant-pages
invariant-pages g l = record {
  here : l.bytes ≡ bytes_from (flat_at l.fn.core).memory l.address l.done ++ drop l.done l.fn.bytes;
  size : length l.bytes ≡ length l.fn.bytes;
  within : l.done ≤ length l.fn.bytes;
  kept : KeepsShown l.fn.core l.core;
}

abbrev pub decreases-pages : goal.decreases-pages
decreases-pages g l = length l.fn.bytes - l.done
