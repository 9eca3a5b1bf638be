use Rattle.std.proofs.Common.{ap}
use Rattle.run_paths.specs.Paths.{steps_of}
use Rattle.guest_history.proofs.history.History.new.Goals as goal

pub begin-requires : goal.begin-requires
unfolding steps_of
begin-requires c = record { counted = ap steps_of c.new.ensures.items }
