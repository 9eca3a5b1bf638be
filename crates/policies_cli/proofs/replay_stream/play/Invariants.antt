use Rattle.std.proofs.Common.{◌≤◌}
use Rattle.trace_files.specs.ReferenceAnswers.{to_come}
use Rattle.policies_cli.specs.Replays.{PlaysNext}
use Rattle.policies_cli.proofs.replay_stream.play.Given as goal

-- Each turn played a page, or more.
abbrev pub invariant-turns : goal.invariant-turns
invariant-turns g l = record {
  played : PlaysNext (to_come g.B.Read.remaining l.initial.trace) (to_come g.B.Read.remaining l.trace) l.initial.rows l.rows l.count;
  few : l.count ≤ l.most;
  turns : l.counter ≤ l.count;
}
