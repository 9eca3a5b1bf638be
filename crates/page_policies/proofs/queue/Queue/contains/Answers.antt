use Rattle.std.proofs.Common.{sym, ap, ◌∙◌}
use Rattle.page_policies.specs.Strings.{holds}
use Rattle.page_policies.proofs.QueueLaws.{holds_found}
use Rattle.page_policies.proofs.queue.Queue.contains.Goals as goal

pub returns : goal.returns
returns c = c.contains.ensures ∙ sym (holds_found c.args.page c.self.inside.pages.entries) ∙ ap (holds c.args.page) c.self.view_is
