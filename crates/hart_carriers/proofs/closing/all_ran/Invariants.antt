-- Those so far have come to what is reported, and the room stays.
use Rattle.std.proofs.Common.{◌≡◌, map, vec_capacity}
use Rattle.machine_sides.specs.Reporting.{come_to}
use Rattle.hart_carriers.proofs.closing.all_ran.Given as goal

abbrev pub invariant-loop-held : goal.invariant-loop-held
invariant-loop-held g l = record { come : map (λ ran. come_to ran.process) l.all.items ≡ map (λ h. come_to h.side) l.yielded; room : vec_capacity l.all ≡ vec_capacity l.fn.room }
