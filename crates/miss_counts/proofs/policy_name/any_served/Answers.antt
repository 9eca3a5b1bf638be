use Rattle.std.proofs.Common.{◌∙◌, sym, ap}
use Rattle.page_policies.specs.declared.frames.Frames.{Frames}
use Rattle.miss_counts.specs.Counted.{any_serves}
use Rattle.miss_counts.proofs.ServingLaws.{served_on}
use Rattle.miss_counts.proofs.policy_name.any_served.Goals as goal

pub frames-preserved : goal.frames-preserved
frames-preserved c = served_on c.args.policies.now c.frames.number-index c.args.frames.now c.number-item.result c.frames-test.true
    (ap (λ (f : Frames). any_serves c.args.policies.now f.number) (sym c.number-item.is) ∙ sym c.if-any_serves.ensures) c.frames.invariant
