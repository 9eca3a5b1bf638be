use Rattle.std.proofs.Common.{arith}
use Rattle.page_memory.proofs.PageRows.{lies_within}
use Rattle.page_memory.proofs.page_row.PageRow.first.Goals as goal

pub overflow_mul-result : goal.overflow_mul-result
overflow_mul-result c =
    let lies = lies_within c.self.inside.rights c.self.inside.bytes.items c.args.place c.args.self.now c.self.view_is c.self.invariant c.requires in
    omega (arith, c.self.inside.bytes.ok.0)
