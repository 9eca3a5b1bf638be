use Rattle.std.proofs.Common.{◌∙◌, ◌-◌, ap}
use Rattle.whole_strings.proofs.OptimumCurveLaws.{falling_on}
use Rattle.whole_strings.proofs.each_optimum.falls.Goals as goal

pub depths-preserved : goal.depths-preserved
depths-preserved c = falling_on c.depths.depth c.args.references c.depths.left c.saturating_sub-left.result c.args.hits.now c.depths.curve.items c.push.new.self.items
    (c.saturating_sub-left.ensures ∙ ap (λ n. c.depths.left - n) c.hits_at.ensures) c.in_ok-push.ensures.items c.depths.invariant
