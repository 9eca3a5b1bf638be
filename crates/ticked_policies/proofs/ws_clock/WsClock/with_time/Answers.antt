use Rattle.std.proofs.Common.{refl}
use Rattle.ticked_policies.proofs.WsClockLaws.{ws_clock_opens}
use Rattle.ticked_policies.proofs.ws_clock.WsClock.with_time.Goals as goal

pub returns : goal.returns
returns c = ws_clock_opens (record { frames = c.number.result; tau = c.tau_of.result; time = 0; pages = c.in_ok-new.field-0; marks = c.no_marks.result }) c.args.set c.args.frames.number
    c.number.ensures.number c.tau_of.ensures c.in_ok-new.ensures c.no_marks.ensures refl
