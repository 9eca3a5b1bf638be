use Rattle.std.proofs.Common.{◌≡◌, ◌+◌, [], take, sym, subst, arith}
use Rattle.std.proofs.lemmas.List.{take_all}
use Rattle.machine_core.specs.Applying.{Runs}
use Rattle.machine_core.proofs.ApplyingLaws.{runs_none, runs_next}
use Rattle.machine_core.proofs.InvisibleLaws.{run_invisible}
use Rattle.machine_core.proofs.machine.Core.run.Goals as goal

pub loop-event-init : goal.loop-event-init
loop-event-init g c = record {
  ran = subst (λ l. Runs g.S.SwapSlot.content g.S.SwapSlot.honest g.S.SwapSlot.failures [] l c.args.self.now c.args.self.now) (sym c.in_ok-replies.ensures.items) (runs_none _ _ _ c.args.self.now);
  count = c.in_ok-replies.ensures.len;
  room = omega (arith, c.in_ok-replies.ensures.capacity);
}

pub loop-event-preserved : goal.loop-event-preserved
loop-event-preserved g c = record {
  ran =
      subst (λ l. Runs g.S.SwapSlot.content g.S.SwapSlot.honest g.S.SwapSlot.failures (take (c.loop-event.event-index + 1) c.args.events.now) l c.args.self.now c.apply.new.self) (sym c.push_reserved.ensures.items)
      (runs_next _ _ _ c.args.events.now c.loop-event.event-index _ c.loop-event.replies.items c.args.self.now c.loop-event.self c.apply.new.self c.apply.result c.loop-event-test.true c.loop-event.invariant.ran c.apply.ensures.applies);
  count = omega (arith, c.push_reserved.ensures.len, c.loop-event.invariant.count);
  room = omega (arith, c.push_reserved.ensures.capacity, c.loop-event.invariant.room);
}

pub returns-clause-invisible : goal.returns-clause-invisible
returns-clause-invisible g c =
    let all : take c.loop-event.event-index c.args.events.now ≡ c.args.events.now = take_all c.loop-event.event-index c.args.events.now (omega arith) in
    run_invisible g.S.SwapSlot.content g.S.SwapSlot.honest g.S.SwapSlot.failures c.args.events.now c.loop-event.replies.items c.args.self.now c.loop-event.self
    (subst (λ l. Runs g.S.SwapSlot.content g.S.SwapSlot.honest g.S.SwapSlot.failures l c.loop-event.replies.items c.args.self.now c.loop-event.self) all c.loop-event.invariant.ran)
    c.faithful.ensures
