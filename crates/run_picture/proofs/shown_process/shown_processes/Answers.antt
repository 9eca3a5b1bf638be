-- One more process, the next.
use Rattle.std.proofs.Common.{map, ap, ◌∙◌}
use Rattle.run_picture.proofs.Telling.{shown_next}
use Rattle.run_picture.specs.Processes.{process_by, process_seen}
use Rattle.run_picture.proofs.shown_process.shown_processes.Goals as goal

pub processes-preserved : goal.processes-preserved
processes-preserved g c =
    ap (map process_seen) c.in_ok-push.ensures.items
    ∙ shown_next process_by process_seen c.args.processes.now c.processes.process-index c.process-item.result c.processes.shown.items c.in_ok-seen.seen c.processes-test.true
    c.processes.invariant (c.in_ok-seen.ensures ∙ ap process_by c.process-item.is)
