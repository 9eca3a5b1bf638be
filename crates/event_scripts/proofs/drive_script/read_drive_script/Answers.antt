use Rattle.std.proofs.Common.{arith, rules}
use Rattle.text_lines.specs.Text.{lines_of, words_of}
use Rattle.event_scripts.specs.DriveScript.{WritesEvent}
use Rattle.text_lines.specs.Lines.{IsSkipped}
use Rattle.event_scripts.proofs.Passed.{writes, skips}
use Rattle.event_scripts.proofs.drive_script.read_drive_script.Goals as goal

pub loop-line-preserved-in_ok-push-in-Ok-Some : goal.loop-line-preserved-in_ok-push-in-Ok-Some
loop-line-preserved-in_ok-push-in-Ok-Some c =
    let written : WritesEvent c.in-Ok-Some.event (words_of c.in-Some.line.now) = search rules in (
      writes (lines_of c.args.text.now) (lines_of c.loop-line.rest.now) (lines_of c.in-Some.others.now) c.in-Some.line.now
          c.loop-line.events.items c.push.new.self.items c.in-Ok-Some.event c.loop-line.number c.loop-line.invariant.0
          c.in-Some.ensures.lines written c.in_ok-push-in-Ok-Some.ensures.items,
      omega (arith, c.loop-line.invariant.1, c.in-Some.ensures.shorter),
    )

pub loop-line-preserved : goal.loop-line-preserved
loop-line-preserved c =
    let skipped : IsSkipped c.in-Some.line.now = search rules in (
      skips (lines_of c.args.text.now) (lines_of c.loop-line.rest.now) (lines_of c.in-Some.others.now) c.in-Some.line.now
          c.loop-line.events.items c.loop-line.number c.loop-line.invariant.0 c.in-Some.ensures.lines skipped,
      omega (arith, c.loop-line.invariant.1, c.in-Some.ensures.shorter),
    )
