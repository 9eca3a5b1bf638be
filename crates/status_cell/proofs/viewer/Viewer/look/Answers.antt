use Rattle.std.proofs.Common.{rules}
use Rattle.status_cell.proofs.Steps.{looks}
use Rattle.status_cell.proofs.viewer.Viewer.look.Goals as goal

pub load_as-requires : goal.load_as-requires
load_as-requires g c = (search rules, (search rules, (search rules, looks _ _ c.self.invariant.1)))
