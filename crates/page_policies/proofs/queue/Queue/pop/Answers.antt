use Rattle.std.proofs.Common.{◌∙◌, ap}
use Rattle.std.specs.Map.{keys_of}
use Rattle.clock_policy.specs.declared.key.Key.{Key}
use Rattle.lru.specs.LruCache.{LruCache}
use Rattle.page_policies.specs.Ordered.{but_last}
use Rattle.page_policies.proofs.OrderedLaws.{others_keys}
use Rattle.page_policies.proofs.queue.Queue.pop.Goals as goal

pub returns-clause-others : goal.returns-clause-others
returns-clause-others c = ap (λ (m : LruCache Key (Unit {0})). keys_of m.entries) c.pop_lru.ensures.entries ∙ others_keys c.self.inside.pages.entries ∙ ap but_last c.self.view_is
