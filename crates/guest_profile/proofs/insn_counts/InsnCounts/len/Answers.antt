use Rattle.std.proofs.Common.{nat_eq}
use Rattle.guest_profile.proofs.ListedKeys.{keys_many}
use Rattle.guest_profile.proofs.insn_counts.InsnCounts.len.Goals as goal

pub returns : goal.returns
returns c = keys_many nat_eq c.args.self.now.counts.entries c.len.result c.len.ensures.len c.len.ensures.unique
