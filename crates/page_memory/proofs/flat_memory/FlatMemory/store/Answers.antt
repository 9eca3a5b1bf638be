use Rattle.std.proofs.Common.{Ok, sym, ap, ◌∙◌}
use Rattle.page_memory.specs.Reservations.{left_by}
use Rattle.page_memory.specs.Memory.{stored}
use Rattle.page_memory.proofs.MemoryLaws.{stored_of, stored_fault}
use Rattle.page_memory.proofs.flat_memory.FlatMemory.store.Goals as goal

pub returns-in-Ok-clause-ok : goal.returns-in-Ok-clause-ok
returns-in-Ok-clause-ok c =
    ap (λ m. stored m c.args.width c.args.address c.args.word) (sym c.self.view_is)
    ∙ stored_of _ c.args.width c.args.address c.args.word _ (c.in-Ok.ensures.ok)
    ∙ ap (λ r. Ok (record { pages = c.store.new.self; reserved = r })) (ap (λ n. left_by c.args.address n c.self.inside.reservations) (sym c.bytes.ensures) ∙ sym c.end.ensures)

pub returns-in-Err-clause-fault : goal.returns-in-Err-clause-fault
returns-in-Err-clause-fault c =
    ap (λ m. stored m c.args.width c.args.address c.args.word) (sym c.self.view_is)
    ∙ stored_fault _ c.args.width c.args.address c.args.word c.in-Err.fault c.in-Err.ensures.fault
