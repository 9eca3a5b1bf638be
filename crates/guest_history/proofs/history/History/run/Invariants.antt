use Rattle.std.proofs.Common.{◌≡◌, ◌+◌, Some}
use Rattle.debug_core.specs.Stops.{last_hart}
use Rattle.run_paths.specs.declared.path.Whose.TheVariants.{ByTurns}
use Rattle.run_paths.specs.Paths.{hart_of}
use Rattle.guest_history.specs.Histories.{IsSameRun, Stands}
use Rattle.guest_history.specs.Runs.{first_of, TurnIs}
use Rattle.guest_history.proofs.InPieces.{HasPassed}
use Rattle.guest_history.proofs.history.History.run.Given as goal

-- Some pieces were run, and there was no reason to stop.
abbrev pub invariant-pieces : goal.invariant-pieces
invariant-pieces l = record {
  stands : Stands l.self;
  same : IsSameRun l.fn.self l.self;
  steps : l.taken + l.left ≡ l.fn.limit;
  done : l.self.done ≡ l.fn.self.done + l.taken;
  points : l.self.debugger.points ≡ l.fn.self.debugger.points;
  passed : HasPassed l.fn.self.debugger.points l.fn.limit l.taken (first_of l.fn.whose l.fn.self.debugger) (hart_of l.fn.whose l.self.debugger.turn) l.self.debugger.target;
  last : l.fn.whose ≡ ByTurns → last_hart l.taken (first_of l.fn.whose l.fn.self.debugger) ≡ Some l.last;
  turn : TurnIs l.fn.whose l.taken l.fn.self.debugger l.self.debugger;
}

abbrev pub decreases-pieces : goal.decreases-pieces
decreases-pieces l = l.left
