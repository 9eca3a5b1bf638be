use Rattle.guest_profile.proofs.ListedKeys.{true_many}
use Rattle.guest_profile.proofs.used_pages.UsedPages.stored.Goals as goal

pub returns : goal.returns
returns c = true_many c.args.self.now.pages.entries c.true_count.result c.true_count.ensures.many c.true_count.ensures.unique
