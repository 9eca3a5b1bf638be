use Rattle.std.proofs.Common.{arith, refl}
use Rattle.std.specs.HashSet.{contains}
use Rattle.page_policies.specs.Strings.{is_page}
use Rattle.miss_counts.proofs.WriteBackLaws.{written_first, written_last, reference_more}
use Rattle.miss_counts.proofs.dirty_pages.write_backs.Goals as goal

pub references-init : goal.references-init
references-init g c = record {
  follows = λ string. refl;
  whole = written_first (g.C.Counting.all c.args.player.now) c.args.string.now (contains is_page c.none_dirty-dirty.result) c.none_dirty-dirty.ensures;
  few = omega arith;
  short = omega (arith, c.requires);
}

pub references-preserved : goal.references-preserved
references-preserved g c =
    let t = reference_more (g.C.Counting.all c.args.player.now) (g.C.Counting.all c.references.player) (g.C.Counting.all c.misses_one.new.player) c.args.string.now c.references.reference-index _ c.in_ok-is_miss.is_miss
    (contains is_page c.references.dirty) (contains is_page c.note.new.dirty) c.references.count c.in_ok-count.field-0 _ c.references-test.true c.references.invariant.follows
    (c.in_ok-is_miss.ensures.goes_on (omega (arith, c.references.invariant.short, c.references-test.true))) c.in_ok-is_miss.ensures.miss
    c.in_ok-count.ensures.count c.in_ok-count.ensures.dirty c.references.invariant.whole in
    record { follows = t.follows; whole = t.whole; few = omega (arith, c.references.invariant.few, c.in_ok-count.ensures.few); short = omega (arith, c.references.invariant.short, c.in_ok-is_miss.ensures.few) }

pub returns : goal.returns
returns g c = written_last (g.C.Counting.all c.args.player.now) c.args.string.now c.references.reference-index c.references.count (contains is_page c.references.dirty) c.references-test.false c.references.invariant.whole
