use Rattle.std.proofs.Common.{◌≡◌, ◌<◌, ◌++◌, length}
use Rattle.std.specs.Fmt.{decimal}
use Rattle.trace_files.proofs.written_pages.longer_number.Given as goal

-- The digits that were passed are those of the number.
abbrev pub invariant-digits : goal.invariant-digits
invariant-digits l = record {
  same : decimal l.number ++ l.text ≡ decimal l.longer ++ l.rest;
  some : 0 < l.longer;
}

abbrev pub decreases-digits : goal.decreases-digits
decreases-digits l = length l.rest
