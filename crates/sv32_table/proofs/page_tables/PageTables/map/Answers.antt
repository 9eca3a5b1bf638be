use Rattle.sv32_table.proofs.TreeCalls.{tree_after_mapping}
use Rattle.sv32_table.proofs.page_tables.PageTables.map.Goals as goal

pub invariant_of-self : goal.invariant_of-self
invariant_of-self c =
    tree_after_mapping _ _ c.args.vpn _ c.map.result c.self.invariant c.requires.vpn c.map.ensures.ok c.map.ensures.err
