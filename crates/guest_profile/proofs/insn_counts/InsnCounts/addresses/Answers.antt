use Rattle.std.proofs.Common.{nat_eq, List, subst, sym, ℕ}
use Rattle.std.specs.Cmp.{nat_eq_equiv}
use Rattle.guest_profile.specs.Counting.{has_run}
use Rattle.guest_profile.specs.Listed.{AreAll}
use Rattle.guest_profile.proofs.ListedKeys.{all_keys, moved}
use Rattle.guest_profile.proofs.insn_counts.InsnCounts.addresses.Goals as goal

pub returns-clause-all : goal.returns-clause-all
returns-clause-all c =
    let ran = has_run c.args.self.now in
    let keys : AreAll nat_eq ran c.in_ok-addresses.addresses.items =
    subst (λ (l : List ℕ). AreAll nat_eq ran l) (sym c.in_ok-addresses.ensures.keys) (all_keys nat_eq c.args.self.now.counts.entries c.keys.ensures.unique) in
    moved nat_eq nat_eq_equiv.symm ran c.in_ok-addresses.addresses.items c.sort_unstable.new.self.items c.sort_unstable.ensures.permutation keys
