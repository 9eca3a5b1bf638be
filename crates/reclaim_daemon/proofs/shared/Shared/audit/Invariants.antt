-- Some processes were counted, which are so many.
use Rattle.reclaim_daemon.proofs.Audited.{FoundSoFar}
use Rattle.reclaim_daemon.proofs.shared.Shared.audit.Given as goal

abbrev pub invariant-processes : goal.invariant-processes
invariant-processes g l = FoundSoFar g.row.S.Denot l.desk l.found l.number
