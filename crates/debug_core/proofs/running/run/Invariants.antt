use Rattle.std.proofs.Common.{◌≡◌, ◌-◌, true, false, length, Some}
use Rattle.page_memory.specs.Memory.{Memory}
use Rattle.flat_machine.specs.Process.{is_live}
use Rattle.debug_core.specs.Debugging.{opening_moment}
use Rattle.debug_core.specs.Seen.{AreSeen}
use Rattle.debug_core.specs.Stops.{last_hart, Passes, RoomAfter}
use Rattle.debug_core.proofs.running.run.Given as goal

-- so many steps were done, after none of them there was a reason to stop, and the watches are seen as before the last
abbrev pub decreases-steps : goal.decreases-steps
decreases-steps g l = l.limit - l.steps

abbrev pub invariant-steps : goal.invariant-steps
invariant-steps g l =
    let shown = g.T.Target.shown in
    record {
      was : Memory;
      passes : Passes (g.T.Target.limits l.fn.target) l.points l.limit l.steps (opening_moment l.alone (shown l.fn.target) l.fn.turn) (record { process = shown l.target; turn = l.turn; was = was; alone = l.alone });
      seen : AreSeen l.points l.seen was;
      room : length l.seen ≡ 32;
      recorded : RoomAfter (g.T.Target.limits l.fn.target) (g.T.Target.limits l.target) l.steps (opening_moment l.alone (shown l.fn.target) l.fn.turn);
      last : last_hart l.steps (opening_moment l.alone (shown l.fn.target) l.fn.turn) ≡ Some l.last;
      live : l.alone ≡ false → is_live l.turn (shown l.target) ≡ true;
      lone : l.alone ≡ true → l.turn ≡ l.fn.turn;
    }
