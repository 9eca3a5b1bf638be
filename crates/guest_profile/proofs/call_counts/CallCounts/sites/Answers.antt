use Rattle.std.proofs.Common.{◌≡◌, ◌&&◌, List, subst, sym}
use Rattle.std.specs.Cmp.{nat_eq_equiv}
use Rattle.guest_profile.specs.declared.call_site.CallSite.{CallSite}
use Rattle.guest_profile.specs.Calls.{is_call, was_made}
use Rattle.guest_profile.specs.Listed.{AreAll}
use Rattle.guest_profile.proofs.ListedKeys.{all_keys, moved}
use Rattle.guest_profile.proofs.call_counts.CallCounts.sites.Goals as goal

flips : (one other : CallSite) → is_call one other ≡ is_call other one
flips one other = λ i. nat_eq_equiv.symm one.site other.site i && (nat_eq_equiv.symm one.callee other.callee i && (nat_eq_equiv.symm one.from_level other.from_level i && nat_eq_equiv.symm one.level other.level i))

pub returns-clause-all : goal.returns-clause-all
returns-clause-all c =
    let made = was_made c.args.self.now in
    let keys : AreAll is_call made c.in_ok-sites.sites.items =
    subst (λ (l : List CallSite). AreAll is_call made l) (sym c.in_ok-sites.ensures.keys) (all_keys is_call c.args.self.now.counts.entries c.keys.ensures.unique) in
    moved is_call flips made c.in_ok-sites.sites.items c.sort_unstable.new.self.items c.sort_unstable.ensures.permutation keys
