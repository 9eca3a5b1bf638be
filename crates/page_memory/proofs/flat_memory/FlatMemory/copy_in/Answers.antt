use Rattle.std.proofs.Common.{Ok, sym, ap, ◌∙◌}
use Rattle.page_memory.specs.Memory.{copied_in}
use Rattle.page_memory.proofs.MemoryLaws.{copied_of, copied_fault}
use Rattle.page_memory.proofs.flat_memory.FlatMemory.copy_in.Goals as goal

pub returns-in-Ok-clause-ok : goal.returns-in-Ok-clause-ok
returns-in-Ok-clause-ok c =
    ap (λ m. copied_in m c.args.address c.args.from.now) (sym c.self.view_is)
    ∙ copied_of _ c.args.address c.args.from.now _ (c.in-Ok.ensures.ok)
    ∙ ap (λ r. Ok (record { pages = c.copy_in.new.self; reserved = r })) (sym c.end.ensures)

pub returns-in-Err-clause-fault : goal.returns-in-Err-clause-fault
returns-in-Err-clause-fault c =
    ap (λ m. copied_in m c.args.address c.args.from.now) (sym c.self.view_is)
    ∙ copied_fault _ c.args.address c.args.from.now c.in-Err.fault c.in-Err.ensures.fault
