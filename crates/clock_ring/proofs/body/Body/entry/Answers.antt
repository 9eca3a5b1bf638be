use Rattle.std.specs.Prelude.{◌≡◌, ◌<◌, length, slice_get}
use Rattle.std.proofs.Common.{arith, sym, ap, ◌∙◌}
use Rattle.page_ring.specs.Index.{entries_of}
use Rattle.clock_ring.proofs.ScanLaws.{get_past, walk_goes_on}
use Rattle.clock_ring.proofs.body.Body.entry.Goals as goal

pub returns-then-i-len : goal.returns-then-i-len
returns-then-i-len c = get_past c.args.self.now.ring.cells c.args.i (omega (arith, c.len.ensures.len, c.if-i-len.true))

pub loop-passed-preserved : goal.loop-passed-preserved
loop-passed-preserved c =
    let within : c.loop-passed._passed < length c.args.self.now.ring.cells = omega (arith, c.len.ensures.len) in
    let step = walk_goes_on c.args.self.now.ring.cells c.loop-passed.at c.loop-passed._passed c.node-at.result c.len.ensures.apart c.loop-passed.invariant.rests c.loop-passed.invariant.here within c.node-at.ensures in
    record { rests = step.rests; here = step.around }

pub returns : goal.returns
returns c =
    let within : c.loop-passed._passed < length c.args.self.now.ring.cells = omega (arith, c.len.ensures.len) in
    let last : c.loop-passed._passed ≡ c.args.i = omega arith in
    let step = walk_goes_on c.args.self.now.ring.cells c.loop-passed.at c.loop-passed._passed c.node.result c.len.ensures.apart c.loop-passed.invariant.rests c.loop-passed.invariant.here within c.node.ensures in
    sym step.entry ∙ ap (slice_get (entries_of c.args.self.now.ring.cells)) last
