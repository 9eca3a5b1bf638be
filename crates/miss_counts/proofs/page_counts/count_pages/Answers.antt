use Rattle.std.proofs.Common.{arith}
use Rattle.std.specs.HashSet.{contains}
use Rattle.page_policies.specs.Strings.{is_page}
use Rattle.miss_counts.proofs.Seen.{seen_more, still_whole}
use Rattle.miss_counts.proofs.page_counts.count_pages.Goals as goal

pub references-preserved : goal.references-preserved
references-preserved c = record {
  whole = still_whole c.references.count c.in_ok-count.field-0 _ _ _ _ c.references.invariant.whole
      (seen_more c.args.string.now c.references.reference-index _ (contains is_page c.references.seen) (contains is_page c.see.new.seen) c.references-test.true c.in_ok-count.ensures.seen)
      c.in_ok-count.ensures.new;
  few = omega (arith, c.references.invariant.few, c.in_ok-count.ensures.few);
}
