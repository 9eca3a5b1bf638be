use Rattle.std.proofs.Common.{sym, ap, ◌∙◌}
use Rattle.page_memory.specs.Memory.{loaded_reserved}
use Rattle.page_memory.proofs.MemoryLaws.{reserved_of, reserved_fault}
use Rattle.page_memory.proofs.flat_memory.FlatMemory.load_reserved.Goals as goal

pub returns-in-Ok-clause-ok : goal.returns-in-Ok-clause-ok
returns-in-Ok-clause-ok c =
    ap (λ m. loaded_reserved m c.args.hart c.args.address) (sym c.self.view_is)
    ∙ reserved_of _ c.args.hart c.args.address c.in-Ok.word _ _ (sym c.load.ensures.number ∙ c.in-Ok.is) c.load.ensures.memory c.reserve.ensures

pub returns-in-Err-clause-fault : goal.returns-in-Err-clause-fault
returns-in-Err-clause-fault c =
    ap (λ m. loaded_reserved m c.args.hart c.args.address) (sym c.self.view_is)
    ∙ reserved_fault _ c.args.hart c.args.address c.in-Err.fault (sym c.load.ensures.number ∙ c.in-Err.is)
