use Rattle.std.proofs.Common.{take}
use Rattle.std.specs.List.{AllZip}
use Rattle.miss_counts.specs.Playing.{Opens}
use Rattle.miss_counts.specs.contracts.any_player.AnyPlayerCounting.TheImpl as any
use Rattle.miss_counts.proofs.row.players_of.Given as goal

abbrev pub invariant-policies : goal.invariant-policies
invariant-policies l = AllZip (λ policy named. Opens any.all-value.it l.frames.number policy (named.policy, named.player)) (take l.at l.policies) l.players.items
