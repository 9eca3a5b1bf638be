use Rattle.std.proofs.Common.{◌≡◌}
use Rattle.miss_counts.specs.Playing.{StartsAnew, Where}
use Rattle.miss_counts.proofs.ZippedLaws.{Below}
use Rattle.miss_counts.proofs.row.forget_each.Given as goal

-- the policies so far count anew
abbrev pub invariant-players : goal.invariant-players
invariant-players g l = Below (λ s t. (t.policy ≡ s.policy) × Where (StartsAnew g.P.Counting.all) s.player t.player) l.initial.named-items l.named-index l.named-items
