use Rattle.guest_history.proofs.GoneOn.{moves_some, stands_next}
use Rattle.guest_history.proofs.history.History.run_piece.Goals as goal

pub note-requires-clause-moved : goal.note-requires-clause-moved
note-requires-clause-moved c = moves_some c.args.self.now c.run_on.new.debugger c.args.whose c.in_ok-run.run'.steps c.requires.stands c.in_ok-run.ensures.moved c.in_ok-run.ensures.ran.points

pub returns-then-self-clause-stands : goal.returns-then-self-clause-stands
returns-then-self-clause-stands c = stands_next c.args.self.now c.run_on.new.debugger c.args.whose c.args.limit c.in_ok-run.run'.steps c.requires.stands (c.requires.next c.if-self.true) c.in_ok-run.ensures.ran.within c.in_ok-run.ensures.moved c.in_ok-run.ensures.ran.points
