-- One process more gives its pages back.
use Rattle.std.proofs.Common.{rules, ◌<◌, length, refl, arith}
use Rattle.std.proofs.lemmas.Option.{slice_get_read}
use Rattle.held_machine.proofs.Purged.{purges_more, purges_none}
use Rattle.held_machine.proofs.parts.Parts.purge_all.Goals as goal

pub loop-number-init : goal.loop-number-init
loop-number-init g c = record { many = refl; end = c.len-number-end.ensures; purges = purges_none _ }

pub loop-number-preserved : goal.loop-number-preserved
loop-number-preserved g c =
    let so_far = c.loop-number.invariant in
    let items = c.loop-number.self.processes.items in
    let number = c.loop-number.number in
    let inside : number < length items = omega (arith, c.loop-number-test.true, so_far.end, so_far.many, c.loop-number.self.processes.ok.0) in
    record {
      many = search rules;
      end = so_far.end;
      purges = purges_more number _ _ _ so_far.purges (record {
        before = c.index_mut.result.now;
        after = c.purge.new.held;
        result = c.purge.result;
        found = slice_get_read items (length items) number c.index_mut.result.now refl inside c.index_mut.ensures.value;
        purges = c.purge.ensures;
        held_is = refl;
      });
    }
