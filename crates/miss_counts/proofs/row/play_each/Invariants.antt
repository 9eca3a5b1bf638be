use Rattle.std.proofs.Common.{◌≡◌}
use Rattle.miss_counts.specs.Playing.{PlaysPages, Where}
use Rattle.miss_counts.proofs.ZippedLaws.{Below}
use Rattle.miss_counts.proofs.row.play_each.Given as goal

-- the policies so far have played
abbrev pub invariant-players : goal.invariant-players
invariant-players g l = Below (λ s t. (t.policy ≡ s.policy) × Where (PlaysPages g.P.Counting.all l.references) s.player t.player) l.initial.named-items l.named-index l.named-items
