use Rattle.std.proofs.Common.{arith}
use Rattle.std.proofs.lemmas.Grind.{common_steps}
use Rattle.file_slots.proofs.Numbered.{none_made, one_more_made}
use Rattle.file_slots.proofs.making.make_file_slots.Goals as goal

pub loop-number-init : goal.loop-number-init
loop-number-init g c =
    record {
      made = none_made g.M.FileMaker.makes c.args.prefix.now c.in_ok-slots.slots.items c.in_ok-slots.ensures.items;
      len = omega (arith, c.in_ok-slots.ensures.len);
      room = grind (arith, common_steps);
    }

pub loop-number-preserved : goal.loop-number-preserved
loop-number-preserved g c =
    record {
      made = one_more_made g.M.FileMaker.makes c.args.prefix.now _ _ _ _ c.loop-number.invariant.made c.in_ok-make_file_slot.ensures.made c.push_reserved.ensures.items;
      len = omega arith;
      room = omega arith;
    }
