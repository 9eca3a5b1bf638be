-- What was published last is what is reported, which is a flat run's.
use Rattle.elf_image.specs.Start.{start_of}
use Rattle.machine_sides.specs.Reporting.{told}
use Rattle.hart_carriers.proofs.FlatRuns.{counted, on_true, stands_for_run}
use Rattle.hart_carriers.proofs.line.line_of.Goals as goal

pub returns-clause-stands : goal.returns-clause-stands
returns-clause-stands g c = λ honest started.
    let same = on_true c.started_from-started.result _ c.started_from-started.ensures.same started in
    stands_for_run g.S.SwapSlot.content (start_of c.args.image.now c.args.input.now) c.args.ran.process (told c.into_process_report.result) (c.coherent.ensures.stands honest) same.0 same.1
    c.into_process_report.ensures

pub returns-clause-last : goal.returns-clause-last
returns-clause-last g c = counted g.S.SwapSlot.content c.args.ran.process c.into_process_report.result c.args.ran.last c.into_process_report.ensures c.args.ran.published
