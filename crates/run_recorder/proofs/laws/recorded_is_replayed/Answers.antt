-- The law as it was proved.
use Rattle.run_recorder.proofs.Replayed.{recorded_is_replayed}
use Rattle.run_recorder.proofs.laws.recorded_is_replayed.Goals as goal

pub returns : goal.returns
returns c = recorded_is_replayed
