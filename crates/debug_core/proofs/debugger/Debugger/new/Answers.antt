use Rattle.debug_core.proofs.Points.{no_points}
use Rattle.debug_core.proofs.debugger.Debugger.new.Goals as goal

pub invariant_of-result : goal.invariant_of-result
invariant_of-result g c = record { points = no_points; live = c.first_turn-turn.ensures.live }
