use Rattle.debug_core.specs.Debugging.{opening_moment}
use Rattle.debug_core.proofs.Passing.{last_of_none, passes_to_none}
use Rattle.debug_core.proofs.Room.{room_first}
use Rattle.debug_core.proofs.running.take_at_once.Goals as goal

pub returns-then-alone-clause-passed : goal.returns-then-alone-clause-passed
returns-then-alone-clause-passed g c =
    passes_to_none (g.T.Target.limits c.args.target.now) c.args.points.now c.args.limit (opening_moment c.args.alone (g.T.Target.shown c.args.target.now) c.args.turn.now)

pub returns-then-alone-clause-last : goal.returns-then-alone-clause-last
returns-then-alone-clause-last g c = last_of_none (opening_moment c.args.alone (g.T.Target.shown c.args.target.now) c.args.turn.now)

pub returns-then-alone-clause-recorded : goal.returns-then-alone-clause-recorded
returns-then-alone-clause-recorded g c = room_first (g.T.Target.limits c.args.target.now) (opening_moment c.args.alone (g.T.Target.shown c.args.target.now) c.args.turn.now)
