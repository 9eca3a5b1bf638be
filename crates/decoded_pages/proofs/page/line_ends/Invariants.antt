use Rattle.std.proofs.Common.{◌≡◌, ◌≤◌, length, slice_index_or}
use Rattle.decoded_pages.specs.Lines.{LinesFrom}
use Rattle.decoded_pages.proofs.page.line_ends.Given as goal

abbrev pub invariant-loop-place : goal.invariant-loop-place
invariant-loop-place l = record {
  below : l.place ≤ 1024;
  from : l.place ≤ l.end;
  small : l.end ≤ 1024;
  counted : length l.ends.items ≡ 1025;
  first : l.end ≡ slice_index_or l.ends.items l.place l.end;
  lines : LinesFrom l.place l.instructions l.ends.items;
}

abbrev pub decreases-loop-place : goal.decreases-loop-place
decreases-loop-place l = l.place
