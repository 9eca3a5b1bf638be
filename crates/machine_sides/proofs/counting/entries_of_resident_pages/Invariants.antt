use Rattle.std.proofs.Common.{◌≡◌, ◌≤◌, take}
use Rattle.clock_policy.specs.ClockPro.{number}
use Rattle.clock_policy.specs.Residents.{is_resident_that}
use Rattle.machine_sides.specs.Held.{is_resident_of}
use Rattle.machine_sides.proofs.counting.entries_of_resident_pages.Given as goal

abbrev pub invariant-entries : goal.invariant-entries
invariant-entries g l = (l.count ≡ number (is_resident_that (is_resident_of l.side)) (take l.i l.pager.pager.list.entries)) × (l.count ≤ l.i)
