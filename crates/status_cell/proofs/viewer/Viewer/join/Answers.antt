use Rattle.std.proofs.Common.{rules}
use Rattle.status_cell.proofs.Steps.{hands_on, joins}
use Rattle.status_cell.proofs.viewer.Viewer.join.Goals as goal

pub split_pass-whole-requires : goal.split_pass-whole-requires
split_pass-whole-requires c = (search rules, (search rules, (search rules, hands_on _ _ c.other.invariant.1)))

pub join_pass-requires : goal.join_pass-requires
join_pass-requires c = (search rules, (search rules, (search rules, joins _ _ _ _)))
