-- Slots are in memory or in files, as was asked for.
use Rattle.serial_commands.proofs.Reported.{on_files, on_memory, writes_as}
use Rattle.serial_commands.proofs.serial_command.run_asked.Goals as goal

pub returns-in_ok-slots-in-None : goal.returns-in_ok-slots-in-None
returns-in_ok-slots-in-None g c =
    writes_as c.run.result _ _ (λ report. on_memory _ _ c.args.request.now.swap c.args.request.now.frames c.args.request.now.slots c.args.request.now.slice c.args.request.now.limit _ c.in_ok-slots-in-None.slots.items report
    c.in-None.is c.in_ok-slots-in-None.ensures) c.run.ensures

pub returns-in_ok-slots-in-Some : goal.returns-in_ok-slots-in-Some
returns-in_ok-slots-in-Some g c =
    writes_as c.run-in-Some.result _ _ (λ report. on_files _ _ c.args.request.now.swap _ c.args.request.now.frames c.args.request.now.slots c.args.request.now.slice c.args.request.now.limit _ c.in_ok-slots-in-Some.slots.items report
    c.in-Some.is c.in_ok-slots-in-Some.ensures.made) c.run-in-Some.ensures
