use Rattle.std.proofs.Common.{◌-◌, ◌≤◌, length}
use Rattle.trace_files.specs.WrittenPages.{AddsPages}
use Rattle.trace_files.proofs.written_pages.add_pages.Given as goal

-- The lines that were passed have the pages that came.
abbrev pub invariant-lines : goal.invariant-lines
invariant-lines l = record {
  added : AddsPages l.text l.rest l.initial.block.items l.block.items;
  few : length l.block.items ≤ l.most;
}

abbrev pub decreases-lines : goal.decreases-lines
decreases-lines l = l.most - length l.block.items
