-- The run is of a machine that has just begun, and its report is written.
use Rattle.std.proofs.Common.{List, map, max, ap, ◌∙◌, subst}
use Rattle.machine_sides.specs.declared.report.ProcessReport.{ProcessReport}
use Rattle.report_text.specs.RunStatus.{worst_status}
use Rattle.serial_driver.specs.Limit.{EndsByLimit}
use Rattle.serial_commands.proofs.Reported.{run_written}
use Rattle.serial_commands.proofs.serial_command.run_with.Goals as goal

pub returns : goal.returns
returns g c =
    let limited =
    subst (λ n. EndsByLimit g.S.SwapSlot.content g.S.SwapSlot.honest g.S.SwapSlot.failures (max c.args.request.now.slice 1) n c.in_ok-machine.machine c.play.new.core) c.from.ensures c.play.ensures.limited in
    run_written g.S.SwapSlot.content g.S.SwapSlot.honest g.S.SwapSlot.failures c.args.request.now.frames c.args.request.now.slice c.args.request.now.limit c.args.slots.items _ c.in_ok-machine.machine c.play.new.core c.into_report-report.result _ _ _
    c.in_ok-machine.ensures c.play.ensures.reached limited c.play.ensures.flat c.into_report-report.ensures c.in_ok-write_report.ensures
    (c.status_of_all.ensures ∙ ap (λ (l : List ProcessReport). worst_status 0 (map (λ process. process.end) l)) c.as_slice.ensures.value)
