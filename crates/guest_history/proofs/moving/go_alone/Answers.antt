use Rattle.guest_history.proofs.MovesOn.{moved_alone}
use Rattle.guest_history.proofs.moving.go_alone.Goals as goal

pub returns-in-Ok-clause-moved : goal.returns-in-Ok-clause-moved
returns-in-Ok-clause-moved c = moved_alone c.args.debugger.now c.go_hart.new.self c.args.debugger.now.points c.args.hart c.args.limit c.in-Ok.stop.0 c.in-Ok.stop.1 c.in-Ok.ensures.stops c.in-Ok.ensures.turn
