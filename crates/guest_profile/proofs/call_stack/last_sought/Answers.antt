use Rattle.std.proofs.Common.{sym, ◌∙◌, arith}
use Rattle.guest_profile.proofs.PendingCalls.{sought_found, sought_passed}
use Rattle.guest_profile.proofs.call_stack.last_sought.Goals as goal

pub returns-then-is_sought-clause-last : goal.returns-then-is_sought-clause-last
returns-then-is_sought-clause-last c = sym (c.places.invariant.before ∙ sought_found c.args.sought c.args.pending.now c.places.place _ c.places-test.true c.places.invariant.within (sym c.is_sought.ensures ∙ c.if-is_sought.true))

pub places-preserved : goal.places-preserved
places-preserved c = record {
  within = omega arith;
  before = c.places.invariant.before ∙ sought_passed c.args.sought c.args.pending.now c.places.place _ c.places-test.true c.places.invariant.within (sym c.is_sought.ensures ∙ c.if-is_sought.false);
}
