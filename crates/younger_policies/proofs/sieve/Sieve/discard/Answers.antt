use Rattle.std.proofs.Common.{◌∙◌}
use Rattle.std.specs.HashSet.{contains}
use Rattle.page_policies.specs.Strings.{is_page}
use Rattle.younger_policies.specs.Sieve.{wrapped}
use Rattle.younger_policies.proofs.sieve.Sieve.discard.Goals as goal

pub returns-clause-queue : goal.returns-clause-queue
returns-clause-queue c = c.wrap.ensures.queue
    ∙ (λ i. wrapped (record { ahead = c.pop.ensures.others i; behind = c.args.self.now.behind; visited = λ q. contains is_page c.args.self.now.visited q }))
