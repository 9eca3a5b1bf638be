use Rattle.std.proofs.Common.{◌≡◌, ◌-◌}
use Rattle.guest_strings.specs.Slices.{first_place}
use Rattle.guest_strings.proofs.turns.first_place.Given as goal

abbrev pub invariant-places : goal.invariant-places
invariant-places l = first_place (l.below - l.from) l.from l.processes ≡ first_place (l.below - l.place) l.place l.processes
