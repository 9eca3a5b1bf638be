use Rattle.kernel_policies.specs.TwoLists.{lists_of}
use Rattle.kernel_policies.proofs.TwoListsLaws.{reclaimed_by}
use Rattle.kernel_policies.proofs.lists.Lists.reclaim.Goals as goal

pub returns : goal.returns
returns c = reclaimed_by c.args.frames c.args.ratio c.len-turns.result (lists_of c.args.self.now) (lists_of c.balance.new.self) (lists_of c.evict.new.self) (lists_of c.cut_shadows.new.self)
    c.len-turns.ensures.len c.in_ok-balance.ensures c.in_ok-evict.ensures c.cut_shadows.ensures
