use Rattle.std.proofs.Common.{◌≡◌}
use Rattle.guest_strings.specs.ToCome.{to_come, uses_left}
use Rattle.guest_strings.proofs.guest_string.GuestString.next.Given as goal

abbrev pub invariant-uses : goal.invariant-uses
invariant-uses l = to_come l.initial.self ≡ to_come l.self

abbrev pub decreases-uses : goal.decreases-uses
decreases-uses l = uses_left l.self.uses
