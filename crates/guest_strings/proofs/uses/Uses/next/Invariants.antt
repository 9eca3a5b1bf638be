use Rattle.std.proofs.Common.{◌≡◌, ◌*◌, ◌≤◌, None}
use Rattle.guest_strings.specs.ToCome.{all_uses, uses_left, uses_to_come}
use Rattle.guest_strings.proofs.uses.Uses.next.Given as goal

abbrev pub invariant-steps : goal.invariant-steps
invariant-steps l = record {
  uses : all_uses l.initial.self ≡ uses_to_come l.self.round;
  none : l.self.data ≡ None;
  fewer : 2 * l.self.round.left ≤ uses_left l.initial.self;
}

abbrev pub decreases-steps : goal.decreases-steps
decreases-steps l = l.self.round.left
