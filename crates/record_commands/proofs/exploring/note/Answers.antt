use Rattle.std.proofs.Common.{option_map}
use Rattle.run_records.specs.Records.{value_of}
use Rattle.record_commands.specs.Saved.{Replaces}
use Rattle.record_commands.proofs.SavedRows.{noted_first, noted_again}
use Rattle.record_commands.proofs.exploring.note.Goals.{then-branch+in_ok-save, else-branch}
use Rattle.record_commands.proofs.exploring.note.Goals as goal

pub returns-clause-saved : goal.returns-clause-saved
returns-clause-saved g c = elim c.if-branch.branch [
  | then-branch+in_ok-save w ↦
      noted_first (Replaces g.R.Folder.gives g.R.Folder.withholds g.R.WholeFiles.takes) (option_map (λ s. s.now) c.args.folder) c.args.seed (value_of c.args.told.now) c.args.rows.now.items c.count.new.rows.items c.in_ok-count.ensures.counts w.in_ok-save.ensures.saved
  | else-branch w ↦
      noted_again (Replaces g.R.Folder.gives g.R.Folder.withholds g.R.WholeFiles.takes) (option_map (λ s. s.now) c.args.folder) c.args.seed (value_of c.args.told.now) c.args.rows.now.items c.count.new.rows.items c.in_ok-count.ensures.counts
      (c.in_ok-count.ensures.again w.if-branch.false)
]
