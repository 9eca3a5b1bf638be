use Rattle.record_commands.specs.Saved.{Replaces}
use Rattle.record_commands.proofs.SoFar.{ExploredSoFar}
use Rattle.record_commands.proofs.exploring.explore.Given as goal

-- As many runs were counted as are done.
abbrev pub invariant-runs : goal.invariant-runs
invariant-runs g l = ExploredSoFar (Replaces g.R.Folder.gives g.R.Folder.withholds g.R.WholeFiles.takes) l.request l.program.image.now l.program.input.now l.program.file l.done l.rows.items
