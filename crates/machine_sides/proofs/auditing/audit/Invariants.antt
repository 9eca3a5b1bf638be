-- The processes so far were counted.
use Rattle.std.proofs.Common.{take}
use Rattle.machine_sides.proofs.AuditLaws.{CountedSo}
use Rattle.machine_sides.proofs.auditing.audit.Given as goal

abbrev pub invariant-spaces : goal.invariant-spaces
invariant-spaces g l = CountedSo l.pager.pager (take l.number l.spaces) l.found l.number
