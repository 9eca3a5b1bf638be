-- With more frames the optimum never misses more: what it does with fewer frames is a way to serve the string with more. A proof.
use Rattle.std.specs.Prelude.{ℕ, ◌≤◌, List, [], ◌∷◌}
use Rattle.std.proofs.Common.{arith}
use Rattle.clock_policy.specs.declared.key.Key.{Key}
use Rattle.page_policies.specs.Demand.{MayLeave, Plays}
use Rattle.page_policies.proofs.DemandLaws.{none_misses_less}
use Rattle.page_policies.specs.Inclusion.{MissesNoMore}
use Rattle.page_policies.specs.Optimal.{optimal_misses}
use Rattle.page_policies.proofs.PlayedLaws.{optimum_played}

leaves_more : (few many : ℕ) (p : Key) (s u : List Key) → few ≤ many → MayLeave few p s u → MayLeave many p s u
leaves_more few many p s u h leaves = record { there = leaves.there; few = let fewer = leaves.few in omega (arith, h, fewer); from = leaves.from }

plays_more : (few many : ℕ) (s string : List Key) (n : ℕ) → few ≤ many → Plays few s string n → Plays many s string n
plays_more few many s [] n h play = play
plays_more few many s (p ∷ ps) n h play =
    (play.0, (play.1.0, (leaves_more few many p s play.0 h play.1.1.0, (play.1.1.1.0, plays_more few many play.0 ps play.1.0 h play.1.1.1.1))))

pub optimum_misses_no_more : MissesNoMore 1 optimal_misses
optimum_misses_no_more few many string least h =
    none_misses_less many (optimal_misses few string) string (omega (arith, least, h)) (plays_more few many [] string (optimal_misses few string) h (optimum_played few string least))
