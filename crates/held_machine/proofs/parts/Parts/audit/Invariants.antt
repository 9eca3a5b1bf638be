-- The processes so far were counted.
use Rattle.std.proofs.Common.{map, take}
use Rattle.machine_sides.proofs.AuditLaws.{CountedSo}
use Rattle.held_machine.specs.Audit.{space_in}
use Rattle.held_machine.proofs.parts.Parts.audit.Given as goal

abbrev pub invariant-processes : goal.invariant-processes
invariant-processes g l = CountedSo l.self.desk.pager.pager (map space_in (take l.number l.self.processes.items)) l.found l.number
