-- Each process adds what closes it.
use Rattle.std.proofs.Common.{refl, arith}
use Rattle.serial_driver.proofs.Closed.{closes_none, closes_more, same_behind}
use Rattle.serial_driver.proofs.Endings.{purge_keeps, ended_more, ended_whole}
use Rattle.serial_driver.proofs.serial.end_all.Goals as goal

pub processes-init : goal.processes-init
processes-init g c = record {
  closes = closes_none g.S.SwapSlot.content g.S.SwapSlot.honest g.S.SwapSlot.failures c.args.core.now;
  same = λ number behind. refl;
  ended = λ number below. absurd (omega (arith, below));
}

pub processes-preserved : goal.processes-preserved
processes-preserved g c =
    let keeps = purge_keeps g.S.SwapSlot.content g.S.SwapSlot.honest g.S.SwapSlot.failures c.end.new.core c.apply.new.self _ _ c.apply.ensures.applies in
    record {
      closes = closes_more g.S.SwapSlot.content g.S.SwapSlot.honest g.S.SwapSlot.failures c.args.core.now c.processes.core c.end.new.core c.apply.new.self _ _
          c.processes.invariant.closes (c.processes.invariant.same _ (omega arith)) c.end.ensures.ends c.apply.ensures.applies;
      same = same_behind g.S.SwapSlot.content g.S.SwapSlot.honest g.S.SwapSlot.failures c.args.core.now c.processes.core c.end.new.core c.apply.new.self _ _
          c.processes.invariant.same c.end.ensures.ends c.apply.ensures.applies;
      ended = ended_more c.apply.new.self _ (λ number within. keeps number (c.end.ensures.kept number (c.processes.invariant.ended number within))) (keeps _ c.end.ensures.ended);
    }

pub returns-clause-ended : goal.returns-clause-ended
returns-clause-ended g c =
    let many = c.processes-process-end.ensures.count in
    let end = c.processes-test.false in
    ended_whole c.args.core.now c.processes.core c.processes.process (omega (arith, many, end)) c.processes.invariant.same c.processes.invariant.ended
