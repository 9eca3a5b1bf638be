use Rattle.std.proofs.Common.{inr, refl, subst}
use Rattle.flat_machine.specs.Process.{Process}
use Rattle.run_records.specs.Records.{value_of}
use Rattle.run_records.specs.Replaying.{StopsReplay}
use Rattle.record_commands.proofs.replay_command.replayed.Goals as goal

pub returns : goal.returns
returns g c =
    let stops = subst (λ (before : Process). StopsReplay c.in-Err.fault (value_of c.args.told.now) before c.replay.new.process) c.in_ok-process.ensures c.in-Err.ensures.refused in
    record {
      replayed = tt;
      refused = inr (c.in_ok-image.image, (c.in_ok-image.ensures.image, inr (c.in_ok-input.input.items, (c.in_ok-input.ensures.input, (refl, (c.replay.new.process, stops))))));
    }
