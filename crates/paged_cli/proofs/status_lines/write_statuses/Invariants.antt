use Rattle.std.proofs.Common.{◌≡◌, ◌+◌, length}
use Rattle.paged_cli.proofs.Written.{Tells}
use Rattle.paged_cli.proofs.status_lines.write_statuses.Given as goal

abbrev pub invariant-loop-status : goal.invariant-loop-status
invariant-loop-status g l = record {
  many : l.number + length l.rest ≡ length l.statuses;
  tells : Tells (g.E.Write.contents l.fn.err) (g.E.Write.contents l.err) l.statuses l.number l.rest;
}

abbrev pub decreases-loop-status : goal.decreases-loop-status
decreases-loop-status g l = length l.rest
