-- The lines of the report are those of the machine.
use Rattle.std.proofs.Common.{ap, map, ◌∙◌}
use Rattle.machine_sides.specs.Reporting.{come_to}
use Rattle.serial_driver.proofs.FlatRuns.{report_stands}
use Rattle.serial_driver.proofs.reporting.run_serial.Goals as goal

pub returns-in-Ok-report_on-clause-flat : goal.returns-in-Ok-report_on-clause-flat
returns-in-Ok-report_on-clause-flat g c = λ frames free starts begins is_honest.
    report_stands g.S.SwapSlot.content g.S.SwapSlot.honest g.S.SwapSlot.failures starts c.play.new.core c.in-Ok-report_on.report
    (c.in-Ok-report_on.ensures.processes ∙ ap (λ l. map come_to l) c.spaces.ensures.spaces) (c.play.ensures.flat frames free starts begins is_honest)
