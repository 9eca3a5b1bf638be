use Rattle.run_records.proofs.Fitting.{AreHarts}
use Rattle.run_records.proofs.record.know_turns.Given as goal

abbrev pub invariant-turns : goal.invariant-turns
invariant-turns l = AreHarts l.turns l.number
