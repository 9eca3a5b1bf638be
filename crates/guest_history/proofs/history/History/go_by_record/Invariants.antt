use Rattle.std.proofs.Common.{◌≡◌, ◌+◌, take}
use Rattle.guest_history.specs.Checkpoints.{beginning}
use Rattle.guest_history.specs.Going.{last_by}
use Rattle.guest_history.specs.Histories.{Stands}
use Rattle.run_paths.specs.Paths.{steps_of}
use Rattle.guest_history.proofs.ByRecord.{Passed}
use Rattle.guest_history.proofs.history.History.go_by_record.Given as goal

-- The turns before the next one were taken, and there was no reason to stop.
abbrev pub invariant-stretches : goal.invariant-stretches
invariant-stretches l = record {
  stands : Stands l.self;
  path : l.self.path ≡ l.fn.self.path;
  program : l.self.program ≡ l.fn.self.program;
  recorded : l.self.is_recorded ≡ l.fn.self.is_recorded;
  points : l.self.debugger.points ≡ l.fn.self.debugger.points;
  done : l.self.done ≡ l.first + steps_of (take l.stretch-index l.stretch-items);
  count : l.self.done ≡ l.first + l.taken;
  steps : l.taken + l.left ≡ l.limit;
  last : l.last ≡ last_by l.taken l.fn.self;
  passed : Passed l.fn.self.debugger.points l.fn.self.path.stretches.items (beginning l.fn.self.program) l.first l.limit l.taken l.self.debugger.target;
}
