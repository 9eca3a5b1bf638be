use Rattle.std.proofs.Common.{◌∙◌}
use Rattle.page_policies.proofs.RandomLaws.{any_holds}
use Rattle.page_policies.proofs.random_policy.is_in.Goals as goal

pub returns : goal.returns
returns c = c.contains.ensures ∙ any_holds c.args.page c.args.pages.now.keys
