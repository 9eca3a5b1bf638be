use Rattle.std.proofs.Common.{rules}
use Rattle.status_cell.proofs.Steps.{cuts}
use Rattle.status_cell.proofs.writer.new_cell.Goals as goal

pub split_pass-viewing-requires : goal.split_pass-viewing-requires
split_pass-viewing-requires c = (search rules, (search rules, (search rules, cuts _ _)))
