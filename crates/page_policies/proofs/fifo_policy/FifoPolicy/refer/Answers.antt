use Rattle.std.proofs.Common.{sym, ◌∙◌}
use Rattle.page_policies.proofs.QueueLaws.{fifo_hit, fifo_miss, holds_found}
use Rattle.page_policies.proofs.fifo_policy.FifoPolicy.refer.Goals as goal

pub returns-then-contains-clause-outcome : goal.returns-then-contains-clause-outcome
returns-then-contains-clause-outcome c = fifo_hit c.args.self.now.pages c.args.page (sym c.contains.ensures ∙ c.if-contains.true)

pub returns-in-Ok-clause-outcome : goal.returns-in-Ok-clause-outcome
returns-in-Ok-clause-outcome c = fifo_miss c.args.self.now.pages c.put.new.self c.args.page (sym c.contains.ensures ∙ c.if-contains.false) c.in-Ok.ensures.entries c.len.ensures.valid.2

pub returns-in-Err-clause-memory : goal.returns-in-Err-clause-memory
returns-in-Err-clause-memory c = holds_found c.args.page c.args.self.now.pages.entries ∙ sym c.contains.ensures ∙ c.if-contains.false
