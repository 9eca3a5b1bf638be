-- What was counted so far, with the processes that are left, is what all of them come to.
use Rattle.std.proofs.Common.{◌≡◌, ◌≤◌, ◌-◌, ◌^◌, length}
use Rattle.hart_carriers.specs.Ending.{cleans_of}
use Rattle.hart_carriers.proofs.Cleans.{with_rest}
use Rattle.hart_carriers.proofs.closing.cleans_of.Given as goal

abbrev pub invariant-loop-held : goal.invariant-loop-held
invariant-loop-held g l = record { counted : with_rest l.cleans l.rest ≡ cleans_of l.processes; small : l.cleans ≤ 2 ^ 64 - 1 }

abbrev pub decreases-loop-held : goal.decreases-loop-held
decreases-loop-held g l = length l.rest
