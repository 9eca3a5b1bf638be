use Rattle.std.proofs.Common.{rules}
use Rattle.status_cell.proofs.Steps.{cuts}
use Rattle.status_cell.proofs.viewer.Viewer.split.Goals as goal

pub split_pass-pass-requires : goal.split_pass-pass-requires
split_pass-pass-requires c = (search rules, (search rules, (search rules, cuts _ _)))
