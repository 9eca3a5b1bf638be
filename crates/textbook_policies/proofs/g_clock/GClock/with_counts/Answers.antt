use Rattle.textbook_policies.proofs.GClockLaws.{g_clock_opens}
use Rattle.textbook_policies.proofs.g_clock.GClock.with_counts.Goals as goal

pub returns : goal.returns
returns c = g_clock_opens (record { frames = c.number.result; counts = c.args.counts; pages = c.in_ok-new.field-0; count = c.no_counts.result }) c.args.counts c.args.frames.number
    c.number.ensures.number (λ _. c.args.counts) c.in_ok-new.ensures c.no_counts.ensures
