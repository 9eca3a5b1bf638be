use Rattle.std.proofs.Common.{◌∙◌, ◌<◌, arith, length}
use Rattle.ticked_policies.specs.Ticked.{rank_of}
use Rattle.ticked_policies.proofs.FramedLaws.{better_within, lowest_more}
use Rattle.ticked_policies.proofs.framed.lowest.Goals as goal

pub places-preserved : goal.places-preserved
places-preserved c =
    let fs = c.args.pages.now.entries in
    let inside : c.places.place < length fs = omega (arith, c.places-test.true, c.len-place-end.ensures.len) in record {
      to_come = lowest_more (rank_of c.args.rule) fs c.places.best c.better-best.result c.places.place inside c.better-best.ensures ∙ c.places.invariant.to_come;
      within = better_within (rank_of c.args.rule) fs c.places.best c.better-best.result c.places.place c.places.invariant.within inside c.better-best.ensures;
    }
