-- The first of the statuses that are left is written.
use Rattle.std.proofs.Common.{arith}
use Rattle.std.proofs.lemmas.List.{nil_from_length}
use Rattle.paged_cli.proofs.Written.{tells_more, tells_all}
use Rattle.paged_cli.proofs.status_lines.write_statuses.Goals as goal

pub loop-status-preserved : goal.loop-status-preserved
loop-status-preserved g c =
    let many = c.loop-status.invariant.many in
    let one = c.in-Some.ensures.cases.1 in
    record {
      many = omega (arith, many, one);
      tells = tells_more _ _ _ c.args.statuses.now c.loop-status.number c.loop-status.rest.now c.in-Some.status.now c.in-Some.others.now c.loop-status.invariant.tells
          c.in-Some.ensures.cases.0 c.in_ok-write_status.ensures;
    }

pub returns : goal.returns
returns g c = tells_all _ _ c.args.statuses.now c.loop-status.number c.loop-status.rest.now c.loop-status.invariant.tells (nil_from_length c.loop-status.rest.now c.in_default.ensures.cases)
