use Rattle.sv32_table.proofs.TreeCalls.{tree_after_map}
use Rattle.sv32_table.proofs.page_tables.PageTables.remap.Goals as goal

pub invariant_of-self : goal.invariant_of-self
invariant_of-self c = tree_after_map _ _ c.args.vpn _ c.self.invariant c.requires.vpn c.put.ensures
