use Rattle.std.proofs.Common.{◌∙◌}
use Rattle.page_policies.proofs.RandomLaws.{inserted_new}
use Rattle.page_policies.proofs.random_state.RandomPolicy.join.Goals as goal

pub returns-in-Ok-clause-pages : goal.returns-in-Ok-clause-pages
returns-in-Ok-clause-pages c = λ i. record { pages = (c.in-Ok.ensures.keys ∙ inserted_new c.args.page c.args.self.now.pages.keys c.requires) i; generator = c.args.self.now.generator }
