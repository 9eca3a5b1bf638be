use Rattle.kernel_policies.proofs.TwoListsLaws.{two_lists_opens}
use Rattle.kernel_policies.proofs.two_lists.TwoLists.with_parts.Goals as goal

pub returns : goal.returns
returns c = two_lists_opens c.in_ok-new.field-0 c.args.parts c.number.result c.ratio.result c.args.frames.number c.number.ensures.number c.ratio.ensures
    c.in_ok-new.ensures.inactive c.in_ok-new.ensures.active c.in_ok-new.ensures.shadows c.in_ok-new.ensures.referenced c.in_ok-new.ensures.left_at c.in_ok-new.ensures.age
