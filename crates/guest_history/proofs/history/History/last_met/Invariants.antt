use Rattle.std.proofs.Common.{◌≤◌, ◌<◌}
use Rattle.guest_history.proofs.Stopping.{IsClear}
use Rattle.guest_history.proofs.history.History.last_met.Given as goal

-- nothing was met after the places that were looked at
abbrev pub invariant-looks : goal.invariant-looks
invariant-looks l = record {
  end : l.end ≤ l.fn.self.done;
  some : 0 < l.width;
  clear : IsClear l.fn.self l.end;
}

abbrev pub decreases-looks : goal.decreases-looks
decreases-looks l = l.end
