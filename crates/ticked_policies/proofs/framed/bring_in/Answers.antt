use Rattle.std.proofs.Common.{◌∙◌}
use Rattle.ticked_policies.proofs.FramedLaws.{entered}
use Rattle.ticked_policies.proofs.framed.bring_in.Goals as goal

pub returns-in-Ok : goal.returns-in-Ok
returns-in-Ok c = c.in-Ok.ensures.entries ∙ entered c.args.page c.args.marks c.args.pages.now.entries c.requires
