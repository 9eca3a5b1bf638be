-- One more length, of the next process.
use Rattle.std.proofs.Common.{ap, ◌∙◌}
use Rattle.run_picture.specs.Pictures.{written_by}
use Rattle.run_picture.proofs.Telling.{told_next}
use Rattle.run_picture.proofs.output.lengths.Goals as goal

pub processes-preserved : goal.processes-preserved
processes-preserved g c =
    c.in_ok-push.ensures.items
    ∙ told_next written_by c.args.processes.now c.processes.process-index c.process-item.result c.processes.lengths.items c.length_of.result c.processes-test.true c.processes.invariant
    (c.length_of.ensures ∙ ap written_by c.process-item.is)
