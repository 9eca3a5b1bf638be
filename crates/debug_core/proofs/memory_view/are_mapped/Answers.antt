use Rattle.std.proofs.Common.{◌≡◌, ◌+◌, sym, ◌∙◌, arith}
use Rattle.debug_core.proofs.ReadingLaws.{all_next, one_missing, all_past}
use Rattle.debug_core.proofs.memory_view.are_mapped.Goals as goal

pub returns-then-not-is_mapped : goal.returns-then-not-is_mapped
returns-then-not-is_mapped g c =
    let memory = (g.T.Target.shown c.args.target.now).memory in
    sym (c.addresses.invariant.rest ∙ one_missing memory c.args.address c.args.count c.addresses.i c.addresses-test.true (sym c.if-not-is_mapped.ensures))

pub addresses-preserved : goal.addresses-preserved
addresses-preserved g c =
    let memory = (g.T.Target.shown c.args.target.now).memory in
    record {
      rest = c.addresses.invariant.rest ∙ all_next memory c.args.address c.args.count c.addresses.i c.addresses-test.true (sym c.if-not-is_mapped.ensures);
      within = omega (arith, c.addresses-test.true);
    }

pub returns : goal.returns
returns g c =
    let memory = (g.T.Target.shown c.args.target.now).memory in
    let within = c.addresses.invariant.within in
    let all : c.addresses.i ≡ c.args.count = omega (arith, within, c.addresses-test.false) in
    sym (c.addresses.invariant.rest ∙ all_past memory (c.args.address + c.addresses.i) c.addresses.i c.args.count all)
