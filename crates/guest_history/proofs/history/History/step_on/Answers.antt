use Rattle.guest_history.proofs.GoneOn.{moves_one}
use Rattle.guest_history.proofs.history.History.step_on.Goals as goal

pub note-requires-clause-moved : goal.note-requires-clause-moved
note-requires-clause-moved c = moves_one c.args.self.now c.step_once.new.debugger c.args.whose c.args.hart c.requires.stands c.requires.whose c.in-Ok.ensures.stepped c.in-Ok.ensures.points
