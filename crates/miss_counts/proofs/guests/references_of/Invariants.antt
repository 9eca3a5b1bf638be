use Rattle.std.proofs.Common.{◌≡◌, ◌++◌, length}
use Rattle.guest_strings.specs.ToCome.{to_come}
use Rattle.miss_counts.proofs.guests.references_of.Given as goal

abbrev pub invariant-references : goal.invariant-references
invariant-references g l = to_come l.initial.guests ≡ l.string.items ++ to_come l.guests

abbrev pub decreases-references : goal.decreases-references
decreases-references g l = length (to_come l.guests)
