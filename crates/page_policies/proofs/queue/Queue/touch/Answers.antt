use Rattle.std.proofs.Common.{List, cond, sym, ap, ◌∙◌}
use Rattle.std.specs.Map.{keys_of}
use Rattle.clock_policy.specs.declared.key.Key.{Key}
use Rattle.lru.specs.LruCache.{LruCache}
use Rattle.page_policies.specs.Strings.{holds}
use Rattle.page_policies.specs.Ordered.{to_front}
use Rattle.page_policies.proofs.QueueLaws.{holds_found}
use Rattle.page_policies.proofs.OrderedLaws.{touched_keys}
use Rattle.page_policies.proofs.queue.Queue.touch.Goals as goal

pub returns-clause-found : goal.returns-clause-found
returns-clause-found c = c.promote.ensures.value ∙ sym (holds_found c.args.page c.self.inside.pages.entries) ∙ ap (holds c.args.page) c.self.view_is

pub returns-clause-order : goal.returns-clause-order
returns-clause-order c = ap (λ (m : LruCache Key (Unit {0})). keys_of m.entries) c.promote.ensures.entries ∙ touched_keys c.args.page c.self.inside.pages.entries
    ∙ ap (λ (s : List Key). cond (holds c.args.page s) (to_front c.args.page s) s) c.self.view_is
