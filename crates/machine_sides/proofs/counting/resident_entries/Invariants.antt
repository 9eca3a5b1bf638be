use Rattle.std.proofs.Common.{◌≡◌, ◌≤◌, true, take}
use Rattle.clock_policy.specs.ClockPro.{number}
use Rattle.clock_policy.specs.Residents.{is_resident_that}
use Rattle.machine_sides.proofs.counting.resident_entries.Given as goal

abbrev pub invariant-entries : goal.invariant-entries
invariant-entries g l = (l.count ≡ number (is_resident_that (λ _. true)) (take l.i l.pager.pager.list.entries)) × (l.count ≤ l.i)
