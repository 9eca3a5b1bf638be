use Rattle.guest_profile.proofs.ListedKeys.{none_found, none_there}
use Rattle.guest_profile.proofs.insn_counts.InsnCounts.is_empty.Goals as goal

pub returns : goal.returns
returns c = (
  λ empty at. none_found c.args.self.now.counts.entries (c.is_empty.ensures.0 empty) at,
  λ none. c.is_empty.ensures.1 (none_there c.args.self.now.counts.entries none),
)
