-- The processes so far are told, and there is room for the rest.
use Rattle.std.proofs.Common.{◌≡◌, map, vec_capacity}
use Rattle.machine_sides.specs.Reporting.{come_to, told}
use Rattle.machine_sides.proofs.reporting.into_report.Given as goal

abbrev pub invariant-spaces : goal.invariant-spaces
invariant-spaces g l = record { told_so : map told l.reports.items ≡ map come_to l.yielded; room : vec_capacity l.reports ≡ vec_capacity l.fn.room }
