use Rattle.std.proofs.Common.{◌^◌, arith, sym}
use Rattle.paged_memory.proofs.cleaning_laws.CleaningLaws.{none_between, none_behind}
use Rattle.paged_memory.proofs.cleaning.next_changed.Goals as goal

pub returns-then-is_changed_resident-clause-least : goal.returns-then-is_changed_resident-clause-least
returns-then-is_changed_resident-clause-least g c = none_between c.args.pages.now c.args.tables.now c.args.from c.loop-vpn.next c.in-Some.vpn c.loop-vpn.invariant.before c.in-Some.ensures.before

pub loop-vpn-preserved : goal.loop-vpn-preserved
loop-vpn-preserved g c = record {
  before = none_behind c.args.pages.now c.args.tables.now c.args.from c.loop-vpn.next c.in-Some.vpn c.loop-vpn.invariant.before c.in-Some.ensures.before (sym c.if-is_changed_resident.ensures);
  looked = let so_far = c.loop-vpn.invariant.looked in let on = c.in-Some.ensures.within.0 in omega (arith, so_far, on);
}

pub returns-clause-none : goal.returns-clause-none
returns-clause-none g c = none_between c.args.pages.now c.args.tables.now c.args.from c.loop-vpn.next (2 ^ 20) c.loop-vpn.invariant.before c.in_default.ensures.none
