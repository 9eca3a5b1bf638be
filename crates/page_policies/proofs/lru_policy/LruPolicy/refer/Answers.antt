use Rattle.std.proofs.Common.{◌≡◌, sym, ap, ◌∙◌}
use Rattle.clock_policy.specs.declared.key.Key.{Key}
use Rattle.lru.specs.LruCache.{LruCache, lru_cache, put_entries}
use Rattle.page_policies.specs.Strings.{is_page}
use Rattle.page_policies.proofs.QueueLaws.{lru_hit, lru_miss, not_promoted, holds_found}
use Rattle.page_policies.proofs.lru_policy.LruPolicy.refer.Goals as goal

pub returns-then-promote-clause-outcome : goal.returns-then-promote-clause-outcome
returns-then-promote-clause-outcome c = lru_hit c.args.self.now.pages c.promote.new.self c.args.page (sym c.if-promote.ensures.value) c.if-promote.ensures.entries c.len.ensures.valid.1

pub returns-in-Ok-clause-outcome : goal.returns-in-Ok-clause-outcome
returns-in-Ok-clause-outcome c =
    let same : c.promote.new.self ≡ c.args.self.now.pages = not_promoted c.args.self.now.pages c.promote.new.self c.args.page (sym c.if-promote.ensures.value) c.if-promote.ensures.entries in
    lru_miss c.args.self.now.pages c.put.new.self c.args.page (sym c.if-promote.ensures.value)
    (c.in-Ok.ensures.entries ∙ ap (λ (m : LruCache Key (Unit {0})). lru_cache (put_entries is_page m c.args.page tt) m.cap) same) c.len.ensures.valid.2

pub returns-in-Err-clause-memory : goal.returns-in-Err-clause-memory
returns-in-Err-clause-memory c = holds_found c.args.page c.args.self.now.pages.entries ∙ sym c.if-promote.ensures.value
