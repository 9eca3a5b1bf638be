use Rattle.std.proofs.Common.{refl, subst}
use Rattle.flat_machine.specs.Process.{Process}
use Rattle.run_records.specs.Records.{value_of}
use Rattle.run_records.specs.Replaying.{Replays, StopsReplay}
use Rattle.guest_cli.proofs.replayed_program.check_record.Goals as goal

pub returns-in-Ok-clause-replays : goal.returns-in-Ok-clause-replays
returns-in-Ok-clause-replays g c =
    (c.replay.new.process, subst (λ (before : Process). Replays (value_of c.args.told.now) before c.replay.new.process) c.in_ok-process.ensures c.in-Ok.ensures.replays)

pub returns : goal.returns
returns g c =
    let stops = subst (λ (before : Process). StopsReplay c.in-Err.fault (value_of c.args.told.now) before c.replay.new.process) c.in_ok-process.ensures c.in-Err.ensures.refused in
    record { replays = tt; refused = (refl, (c.replay.new.process, stops)) }
