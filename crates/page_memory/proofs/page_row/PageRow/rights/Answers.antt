use Rattle.page_memory.proofs.PageRows.{shows_rights, within_rights}
use Rattle.page_memory.proofs.page_row.PageRow.rights.Goals as goal

pub at-requires : goal.at-requires
at-requires c = within_rights c.self.inside.rights c.self.inside.bytes.items c.args.place c.args.self.now c.self.view_is c.requires

pub returns : goal.returns
returns c = shows_rights c.self.inside.rights c.self.inside.bytes.items c.args.place c.args.self.now c.at.result.now c.self.view_is c.at.ensures
