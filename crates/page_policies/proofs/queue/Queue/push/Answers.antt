use Rattle.std.proofs.Common.{arith, sym, ap, ◌∙◌}
use Rattle.page_policies.specs.Ordered.{to_front}
use Rattle.page_policies.specs.Strings.{holds}
use Rattle.page_policies.proofs.OrderedLaws.{front_keys, refused_keys}
use Rattle.page_policies.proofs.queue.Queue.push.Goals as goal

pub returns-clause-order : goal.returns-clause-order
returns-clause-order c = front_keys c.self.inside.pages c.put.new.self c.args.page c.in-Ok.ensures.entries c.self.invariant (omega (arith, c.len.ensures.len, c.len.ensures.fits)) ∙ ap (to_front c.args.page) c.self.view_is

pub returns-in_default-clause-memory : goal.returns-in_default-clause-memory
returns-in_default-clause-memory c = sym (ap (holds c.args.page) c.self.view_is) ∙ refused_keys c.args.page c.self.inside.pages.entries c.in_default.ensures.succeeds
