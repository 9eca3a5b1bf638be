use Rattle.std.proofs.Common.{refl, sym, arith, ◌∙◌}
use Rattle.elf_image.proofs.RisingLaws.{distinct_none, count_new, count_old, last_region_more}
use Rattle.elf_image.proofs.parts.count_regions.Goals as goal
use Rattle.elf_image.proofs.parts.count_regions.Goals.{then-ne, else-ne}

pub loop-listed-init : goal.loop-listed-init
loop-listed-init c = record { count = sym distinct_none; few = omega arith; last = refl }

pub loop-listed-preserved : goal.loop-listed-preserved
loop-listed-preserved c =
    elim c.if-ne.branch [
      | then-ne w ↦ record {
        count = w.count-is ∙ count_new c.args.pages.now c.loop-listed.listed-index c.loop-listed.count c.listed-item.result c.loop-listed.last c.requires (omega arith) c.listed-item.is c.loop-listed.invariant.count c.loop-listed.invariant.last (sym c.ne.ensures ∙ w.if-ne.true);
        few = omega arith;
        last = w.last-is ∙ sym (last_region_more c.args.pages.now c.loop-listed.listed-index c.listed-item.result (omega arith) c.listed-item.is);
      }
      | else-ne w ↦
          let old = count_old c.args.pages.now c.loop-listed.listed-index c.loop-listed.count c.listed-item.result c.loop-listed.last c.requires (omega arith) c.listed-item.is c.loop-listed.invariant.count c.loop-listed.invariant.last (sym c.ne.ensures ∙ w.if-ne.false) in
          record {
            count = w.count-is ∙ old.0;
            few = omega arith;
            last = w.last-is ∙ old.1 ∙ sym (last_region_more c.args.pages.now c.loop-listed.listed-index c.listed-item.result (omega arith) c.listed-item.is);
          }
    ]
