use Rattle.std.proofs.Common.{subst}
use Rattle.page_policies.specs.declared.frames.Frames.{Frames}
use Rattle.miss_counts.proofs.ZippedLaws.{zip_more}
use Rattle.miss_counts.specs.WrittenBack.{IsWrittenBack}
use Rattle.miss_counts.proofs.write_back_table.count_rows.Goals as goal

pub frames-preserved : goal.frames-preserved
frames-preserved g c = zip_more (IsWrittenBack c.args.policies.now c.args.string.now) c.frames.at c.args.frames.now c.index-frames-at.result c.frames.rows.items c.push.new.self.items c.in_ok-counts_of.field-0 c.frames-test.true c.frames.invariant
    (subst (λ (f : Frames). IsWrittenBack c.args.policies.now c.args.string.now f c.in_ok-counts_of.field-0) c.index-frames-at.is c.in_ok-counts_of.ensures) c.in_ok-push.ensures.items
