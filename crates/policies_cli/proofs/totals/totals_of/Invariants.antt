use Rattle.std.proofs.Common.{◌≡◌, ◌≤◌}
use Rattle.trace_files.specs.ReferenceAnswers.{to_come}
use Rattle.policies_cli.proofs.Counting.{Counts}
use Rattle.policies_cli.proofs.totals.totals_of.Given as goal

abbrev pub invariant-references : goal.invariant-references
invariant-references g l = record {
  counted : Counts (to_come g.B.Read.remaining l.initial.trace) (to_come g.B.Read.remaining l.trace) l.seen l.totals;
  turns : l.totals.references ≡ l.counter;
  few_writes : l.totals.writes ≤ l.totals.references;
  few_pages : l.totals.pages ≤ l.totals.references;
}
