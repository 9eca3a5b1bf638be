use Rattle.std.proofs.Common.{◌≡◌, ◌≤◌, ◌+◌, length, take}
use Rattle.debug_core.specs.Seen.{AreSeen}
use Rattle.run_paths.specs.Paths.{steps_of}
use Rattle.run_paths.proofs.Meets.{HasSearched}
use Rattle.run_paths.proofs.searching.last_met.Given as goal

-- What was met last on the steps so far is known.
abbrev pub invariant-stretches : goal.invariant-stretches
invariant-stretches l = record {
  reached : l.search.steps ≡ steps_of (take l.stretch-index l.path);
  searched : HasSearched l.points l.path l.fn.place l.search;
  seen : AreSeen l.points l.seen l.search.place.process.memory;
  room : 32 ≤ length l.seen;
}

abbrev pub invariant-steps : goal.invariant-steps
invariant-steps l = record {
  within : l.left ≤ l.stretch.count;
  reached : l.search.steps + l.left ≡ steps_of (take l.stretch-index l.path) + l.stretch.count;
  searched : HasSearched l.points l.path l.fn.place l.search;
  seen : AreSeen l.points l.seen l.search.place.process.memory;
  room : 32 ≤ length l.seen;
}

abbrev pub decreases-steps : goal.decreases-steps
decreases-steps l = l.left
