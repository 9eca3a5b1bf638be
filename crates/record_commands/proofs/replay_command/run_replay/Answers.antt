use Rattle.std.proofs.Common.{ℕ, List, inl, inr, subst}
use Rattle.std.proofs.lemmas.Result.{err_from_is_err_and}
use Rattle.std.specs.Io.KnownBytes.{Appends}
use Rattle.run_records.specs.Records.{value_of}
use Rattle.record_commands.proofs.replay_command.run_replay.Goals as goal

pub returns-clause-answered : goal.returns-clause-answered
returns-clause-answered g c =
    let replayed = c.in_ok-process.ensures.replayed in
    record {
      told = value_of c.in_ok-told.told;
      told_given = c.in_ok-told.ensures.told;
      image = replayed.0;
      image_given = rw (← c.as_slice.ensures.value) replayed.1.0;
      input = replayed.1.1.0;
      input_given = replayed.1.1.1.0;
      after = c.in_ok-process.process;
      replays = replayed.1.1.1.1;
      written = subst (λ (bytes : List ℕ). Appends (g.O.Write.contents c.args.out.now) (g.O.Write.contents c.write_output.new.out) bytes) c.output.ensures c.in_ok-write_output.ensures;
      status_is = c.status_of.ensures;
    }

pub returns-in_err-process-clause-refused : goal.returns-in_err-process-clause-refused
returns-in_err-process-clause-refused g c =
    let p = err_from_is_err_and c.from_residual-in_err-process.result c.from_residual-in_err-process.ensures.1 in
    rw (p.1, p.2, ← c.as_slice.ensures.value) (inr (inl (value_of c.in_ok-told.told, (c.in_ok-told.ensures.told, c.in_err-process.ensures.refused))))
