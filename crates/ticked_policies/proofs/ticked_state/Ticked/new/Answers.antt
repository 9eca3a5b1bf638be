use Rattle.ticked_policies.proofs.TickedLaws.{ticked_opens}
use Rattle.ticked_policies.proofs.ticked_state.Ticked.new.Goals as goal

pub returns : goal.returns
returns c = ticked_opens c.args.rule c.args.every c.number.result c.args.frames.number c.new.result.entries c.number.ensures.number c.new.ensures.empty
