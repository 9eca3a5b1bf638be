use Rattle.std.proofs.Common.{◌∙◌, ap}
use Rattle.younger_policies.specs.Sieve.{wrapped, passed, queue_of}
use Rattle.younger_policies.proofs.sieve.Sieve.pass.Goals as goal

pub returns-clause-queue : goal.returns-clause-queue
returns-clause-queue c = c.wrap.ensures.queue
    ∙ (λ i. wrapped (record { ahead = c.pop.ensures.others i; behind = c.in_ok-push.ensures.order i; visited = λ q. c.unmark.ensures q i }))
    ∙ ap (λ o. passed o (queue_of c.args.self.now)) c.in-Some.ensures.page
