use Rattle.std.proofs.Common.{refl, ◌∙◌, length-set, arith}
use Rattle.page_store.proofs.PartLaws.{some_none, some_more, some_all}
use Rattle.page_store.proofs.reading.read_bytes.Goals as goal

pub bytes-init : goal.bytes-init
bytes-init c = record { here = some_none c.args.page.now c.args.offset c.args.bytes.now; size = refl; within = omega arith }

pub bytes-preserved : goal.bytes-preserved
bytes-preserved c = record {
  here = some_more c.args.page.now c.args.offset c.bytes.i c.bytes.bytes c.args.bytes.now (omega (arith, c.bytes-test.true)) (omega (arith, c.bytes-test.true, c.requires)) c.bytes.invariant.here;
  size = length-set c.bytes.bytes c.bytes.i _ ∙ c.bytes.invariant.size;
  within = omega (arith, c.bytes-test.true);
}

pub returns : goal.returns
returns c =
    let within = c.bytes.invariant.within in
    some_all c.args.page.now c.args.offset c.bytes.i c.bytes.bytes c.args.bytes.now (omega (arith, c.bytes-test.false, within)) c.bytes.invariant.here
