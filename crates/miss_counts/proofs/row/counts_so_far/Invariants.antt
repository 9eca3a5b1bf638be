use Rattle.std.proofs.Common.{◌≡◌, [], map, option_map, take}
use Rattle.miss_counts.proofs.row.counts_so_far.Given as goal

abbrev pub invariant-players : goal.invariant-players
invariant-players g l = l.counts.items ≡ map (λ named. record { policy = named.policy; count = option_map (λ p. g.P.Counting.all p []) named.player }) (take l.named-index l.players)
