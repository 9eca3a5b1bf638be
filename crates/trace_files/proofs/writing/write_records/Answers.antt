use Rattle.std.proofs.Common.{◌≡◌, length, arith, ap, ◌∙◌, slice_index_or, refl}
use Rattle.clock_policy.specs.declared.key.Key.{Key}
use Rattle.whole_strings.proofs.PlaceStepLaws.{length_uses}
use Rattle.trace_files.proofs.WrittenLaws.{writes_on}
use Rattle.trace_files.proofs.writing.write_records.Goals as goal

pub bounds-uses-at : goal.bounds-uses-at
bounds-uses-at g c =
    let inside = c.places-test.true in
    let long : length c.args.uses.now ≡ length c.args.string.now = ap length c.requires ∙ length_uses c.args.string.now in
    omega (arith, inside, long)

pub places-preserved : goal.places-preserved
places-preserved g c = writes_on (g.W.Write.contents c.args.out.now) (g.W.Write.contents c.places.out) (g.W.Write.contents c.write_record.new.out) c.places.at c.short_time.result c.next_time-next.result c.args.string.now c.args.uses.now
    (slice_index_or c.args.string.now c.places.at none) none c.requires c.places-test.true refl c.short_time.ensures c.next_time-next.ensures c.in_ok-write_record.ensures c.places.invariant
  where
    none : Key
    none = record { process = 0; vpn = 0 }
