use Rattle.std.proofs.Common.{[], subst}
use Rattle.page_policies.specs.declared.frames.Frames.{Frames}
use Rattle.miss_counts.specs.Replayed.{HasPlayed}
use Rattle.miss_counts.proofs.ZippedLaws.{zip_more}
use Rattle.miss_counts.proofs.rows.Rows.new.Goals as goal

pub frames-preserved : goal.frames-preserved
frames-preserved c = zip_more (HasPlayed c.args.policies.now [] []) c.frames.at c.args.frames.now c.index-frames-at.result c.frames.rows.items c.push.new.self.items c.in_ok-new_row.field-0 c.frames-test.true c.frames.invariant
    (subst (λ (f : Frames). HasPlayed c.args.policies.now [] [] f c.in_ok-new_row.field-0) c.index-frames-at.is c.in_ok-new_row.ensures) c.in_ok-push.ensures.items
