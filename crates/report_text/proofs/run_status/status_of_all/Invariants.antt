use Rattle.std.proofs.Common.{◌≡◌, length, map}
use Rattle.report_text.specs.RunStatus.{worst_status}
use Rattle.report_text.proofs.run_status.status_of_all.Given as goal

-- The status so far, with the processes that are left, is that of them all.
abbrev pub invariant-loop-first : goal.invariant-loop-first
invariant-loop-first l = worst_status l.status (map (λ process. process.end) l.rest) ≡ worst_status 0 (map (λ process. process.end) l.processes)

abbrev pub decreases-loop-first : goal.decreases-loop-first
decreases-loop-first l = length l.rest
