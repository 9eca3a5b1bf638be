use Rattle.sv32_table.proofs.TreeCalls.{tree_after_mark}
use Rattle.sv32_table.proofs.page_tables.PageTables.clear_dirty.Goals as goal

pub invariant_of-self : goal.invariant_of-self
invariant_of-self c = tree_after_mark _ _ c.args.vpn _ c.self.invariant c.requires c.clear_dirty.ensures.words
