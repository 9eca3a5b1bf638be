use Rattle.std.proofs.Common.{◌≡◌, ◌≤◌, length, take, vec_len, vec_capacity}
use Rattle.machine_core.specs.Applying.{Runs}
use Rattle.machine_core.proofs.machine.Core.run.Given as goal

abbrev pub invariant-loop-event : goal.invariant-loop-event
invariant-loop-event g l = record {
  ran : Runs g.S.SwapSlot.content g.S.SwapSlot.honest g.S.SwapSlot.failures (take l.event-index l.events) l.replies.items l.initial.self l.self;
  count : vec_len l.replies ≡ l.event-index;
  room : length l.events ≤ vec_capacity l.replies;
}
