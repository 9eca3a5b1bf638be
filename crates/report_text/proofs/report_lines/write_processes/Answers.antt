-- The first of the processes that are left is told.
use Rattle.std.proofs.Common.{ap, arith, map}
use Rattle.std.proofs.lemmas.List.{nil_from_length}
use Rattle.machine_sides.specs.Reporting.{told}
use Rattle.report_text.proofs.Written.{tells_more, tells_all}
use Rattle.report_text.proofs.report_lines.write_processes.Goals as goal

pub loop-process-preserved : goal.loop-process-preserved
loop-process-preserved g c =
    let many = c.loop-process.invariant.many in
    let one = c.in-Some.ensures.cases.1 in
    record {
      many = omega (arith, many, one);
      tells = tells_more _ _ _ (map told c.args.processes.now) c.loop-process.number (map told c.loop-process.rest.now) (told c.in-Some.process.now) (map told c.in-Some.others.now)
          c.loop-process.invariant.tells (ap (map told) c.in-Some.ensures.cases.0) c.in_ok-write_line.ensures;
    }

pub returns : goal.returns
returns g c =
    tells_all _ _ (map told c.args.processes.now) c.loop-process.number (map told c.loop-process.rest.now) c.loop-process.invariant.tells
    (ap (map told) (nil_from_length c.loop-process.rest.now c.in_default.ensures.cases))
