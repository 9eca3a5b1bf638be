use Rattle.std.proofs.Common.{[]}
use Rattle.debug_core.specs.Debugging.{first_moment}
use Rattle.debug_core.proofs.Passing.{passes_to_none}
use Rattle.debug_core.proofs.Room.{room_first}
use Rattle.paged_target.specs.Lacks.{Lacks}
use Rattle.paged_target.specs.Shown.{shown_of}
use Rattle.paged_target.proofs.paged_target.PagedTargetTarget.take_turns.Goals as goal

pub returns-clause-passed : goal.returns-clause-passed
returns-clause-passed g c = passes_to_none (Lacks c.args.self.now) [] c.args._most (first_moment (shown_of c.args.self.now) c.args.turn.now)

pub returns-clause-recorded : goal.returns-clause-recorded
returns-clause-recorded g c = room_first (Lacks c.args.self.now) (first_moment (shown_of c.args.self.now) c.args.turn.now)
