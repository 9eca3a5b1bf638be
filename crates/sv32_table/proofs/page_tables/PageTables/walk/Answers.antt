use Rattle.std.proofs.Common.{arith}
use Rattle.sv32_table.proofs.TreeCalls.{answer_of_walk, entries_after_walk, leaf_dirty, tree_after_walk}
use Rattle.sv32_table.proofs.page_tables.PageTables.walk.Goals as goal

pub invariant_of-self : goal.invariant_of-self
invariant_of-self c = tree_after_walk _ _ c.args.address c.args.access c.self.invariant (omega arith) c.walk.ensures.words

pub returns-clause-dirty : goal.returns-clause-dirty
returns-clause-dirty c =
    leaf_dirty c.self.inside.tables c.walk.new.self c.args.address c.args.access c.walk.result (omega arith)
    (answer_of_walk c.self.inside.tables c.args.address c.args.access c.walk.result c.self.invariant (omega arith) c.walk.ensures.leaf)
    (entries_after_walk c.self.inside.tables c.walk.new.self c.args.address c.args.access c.self.invariant (omega arith) c.walk.ensures.words)
