use Rattle.ticked_policies.proofs.FramedLaws.{swapped}
use Rattle.ticked_policies.proofs.framed.replace.Goals as goal

pub returns : goal.returns
returns c = swapped c.args.place (c.args.page, c.args.marks) c.args.pages.now.entries c.bring_in.new.pages.entries c.swap_remove_index.new.self.entries c.swap_remove_index.result
    c.requires.place c.in_ok-bring_in.ensures c.swap_remove_index.ensures.entry c.swap_remove_index.ensures.entries
