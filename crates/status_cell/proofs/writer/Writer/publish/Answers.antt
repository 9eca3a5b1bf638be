use Rattle.std.proofs.Common.{rules}
use Rattle.status_cell.proofs.Steps.{publishes}
use Rattle.status_cell.proofs.writer.Writer.publish.Goals as goal

pub swap_as-requires : goal.swap_as-requires
swap_as-requires g c = (search rules, (search rules, (search rules, publishes _ _ _ c.self.invariant.1 (search rules))))
