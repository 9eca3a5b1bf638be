-- One more output, of the next process.
use Rattle.std.proofs.Common.{map, ap, ◌∙◌}
use Rattle.run_picture.specs.Pictures.{bytes_in, output_by}
use Rattle.run_picture.proofs.Telling.{shown_next}
use Rattle.run_picture.proofs.output.outputs_of.Goals as goal

pub processes-preserved : goal.processes-preserved
processes-preserved g c =
    ap (map bytes_in) c.in_ok-push.ensures.items
    ∙ shown_next output_by bytes_in c.args.processes.now c.processes.process-index c.process-item.result c.processes.outputs.items c.in_ok-output.output c.processes-test.true
    c.processes.invariant (c.in_ok-output.ensures ∙ ap output_by c.process-item.is)
