-- Each of those so far has ended.
use Rattle.std.proofs.Common.{ℕ, ◌<◌, slice_index_or}
use Rattle.std.specs.Prelude.{IsSome}
use Rattle.machine_sides.specs.declared.report.ProcessReport.{ProcessReport}
use Rattle.hart_carriers.proofs.closing.have_ended.Given as goal

abbrev pub invariant-loop-process : goal.invariant-loop-process
invariant-loop-process l = (k : ℕ) (d : ProcessReport) → k < l.process-index → IsSome (slice_index_or l.processes k d).end
