use Rattle.std.proofs.Common.{◌∙◌, ap, sym}
use Rattle.std.specs.Map.{keys_of}
use Rattle.std.specs.Option.{is_some}
use Rattle.clock_policy.specs.declared.key.Key.{Key}
use Rattle.lru.specs.LruCache.{LruCache}
use Rattle.page_policies.specs.Strings.{holds, without}
use Rattle.page_policies.proofs.QueueLaws.{holds_found, keys_removed}
use Rattle.page_policies.proofs.queue.Queue.remove.Goals as goal

pub returns-clause-found : goal.returns-clause-found
returns-clause-found c = c.is_some.ensures ∙ ap is_some c.pop.ensures.value ∙ sym (holds_found c.args.page c.self.inside.pages.entries) ∙ ap (holds c.args.page) c.self.view_is

pub returns-clause-others : goal.returns-clause-others
returns-clause-others c = ap (λ (m : LruCache Key (Unit {0})). keys_of m.entries) c.pop.ensures.entries ∙ keys_removed c.args.page c.self.inside.pages.entries ∙ ap (without c.args.page) c.self.view_is
