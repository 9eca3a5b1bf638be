use Rattle.std.proofs.Common.{nat_eq}
use Rattle.guest_profile.proofs.ListedKeys.{keys_many}
use Rattle.guest_profile.proofs.used_pages.UsedPages.len.Goals as goal

pub returns : goal.returns
returns c = keys_many nat_eq c.args.self.now.pages.entries c.len.result c.len.ensures.len c.len.ensures.unique
