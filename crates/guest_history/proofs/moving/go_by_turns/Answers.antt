use Rattle.guest_history.proofs.MovesOn.{moved_by_turns}
use Rattle.guest_history.proofs.moving.go_by_turns.Goals as goal

pub returns-in-Ok-clause-moved : goal.returns-in-Ok-clause-moved
returns-in-Ok-clause-moved c = moved_by_turns c.args.debugger.now c.go.new.self c.args.debugger.now.points c.args.limit c.in-Ok.stop.0 c.in-Ok.stop.1 c.in-Ok.ensures.stops
