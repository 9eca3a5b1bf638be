use Rattle.std.proofs.Common.{◌^◌, arith}
use Rattle.paged_memory.proofs.move_laws.GivingBackLaws.{nothing_between, nothing_behind}
use Rattle.paged_memory.proofs.giving_back.first_with_something.Goals as goal

pub returns-then-has_something-clause-first : goal.returns-then-has_something-clause-first
returns-then-has_something-clause-first g c = nothing_between c.args.pages.now c.loop-vpn.from c.in-Some.vpn c.loop-vpn.invariant.before c.in-Some.ensures.before

pub loop-vpn-preserved : goal.loop-vpn-preserved
loop-vpn-preserved g c = record {
  before = nothing_behind c.args.pages.now c.loop-vpn.from c.in-Some.vpn c.loop-vpn.invariant.before c.in-Some.ensures.before c.if-has_something.ensures.nothing;
  looked = let so_far = c.loop-vpn.invariant.looked in let on = c.in-Some.ensures.within.0 in omega (arith, so_far, on);
}

pub returns-clause-none : goal.returns-clause-none
returns-clause-none g c = nothing_between c.args.pages.now c.loop-vpn.from (2 ^ 20) c.loop-vpn.invariant.before c.in_default.ensures.none
