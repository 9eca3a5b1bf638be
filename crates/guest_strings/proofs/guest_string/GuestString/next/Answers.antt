use Rattle.std.proofs.Common.{◌∙◌}
use Rattle.guest_strings.specs.ToCome.{all_uses}
use Rattle.guest_strings.proofs.Joining.{ends, no_more}
use Rattle.guest_strings.proofs.guest_string.GuestString.next.Goals as goal

pub returns-clause-next : goal.returns-clause-next
returns-clause-next c =
    c.uses.invariant ∙ ends c.uses.self.held c.take.result c.take.new.self c.in_ok-next.field-0 (all_uses c.uses.self.uses) (all_uses c.next.new.self) c.in_default.is
    c.in_ok-next.ensures.next c.in_ok-next.ensures.done c.take.ensures.value c.take.ensures.after

pub returns-clause-end : goal.returns-clause-end
returns-clause-end c = λ _.
    no_more c.take.new.self c.in_ok-next.field-0 (all_uses c.next.new.self) c.in_default.is c.in_ok-next.ensures.done c.take.ensures.after
