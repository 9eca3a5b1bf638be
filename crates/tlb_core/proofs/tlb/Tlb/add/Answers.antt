use Rattle.std.proofs.Common.{sym, ◌∙◌}
use Rattle.tlb_core.proofs.Places.{filled_new}
use Rattle.tlb_core.proofs.tlb.Tlb.add.Goals as goal

pub returns : goal.returns
returns c = c.append.ensures ∙ sym (filled_new c.args.entry c.args.self.now c.requires)
