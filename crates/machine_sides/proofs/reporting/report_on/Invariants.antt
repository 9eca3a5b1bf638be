-- The processes so far are told.
use Rattle.std.proofs.Common.{◌≡◌, map, take}
use Rattle.machine_sides.specs.Reporting.{come_to, told}
use Rattle.machine_sides.proofs.reporting.report_on.Given as goal

abbrev pub invariant-spaces : goal.invariant-spaces
invariant-spaces g l = map told l.reports.items ≡ map come_to (take l.space-index l.spaces)
