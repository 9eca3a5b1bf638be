use Rattle.std.proofs.Common.{true, false, Ok, sym, ap, ◌∙◌}
use Rattle.page_memory.specs.Reservations.{left_by}
use Rattle.page_memory.specs.Memory.{stored_conditionally}
use Rattle.page_memory.proofs.MemoryLaws.{conditional_of, conditional_fault, untested, untested_fault}
use Rattle.page_memory.proofs.flat_memory.FlatMemory.store_conditional.Goals as goal

pub returns-in-Ok-clause-ok : goal.returns-in-Ok-clause-ok
returns-in-Ok-clause-ok c =
    ap (λ m. stored_conditionally m c.args.hart c.args.address c.args.word) (sym c.self.view_is)
    ∙ conditional_of _ c.args.hart c.args.address c.args.word true c.store.new.self (sym c.has.ensures ∙ c.if-has.true) c.in-Ok.ensures.ok
    ∙ ap (λ r. Ok (true, record { pages = c.store.new.self; reserved = r })) (ap (λ r. left_by c.args.address 4 r) (sym c.release.ensures) ∙ sym c.end.ensures)

pub returns-in-Err-clause-fault : goal.returns-in-Err-clause-fault
returns-in-Err-clause-fault c =
    ap (λ m. stored_conditionally m c.args.hart c.args.address c.args.word) (sym c.self.view_is)
    ∙ conditional_fault _ c.args.hart c.args.address c.args.word c.in-Err.fault c.in-Err.ensures.fault

pub returns-in-Ok-load_to_replace-clause-ok : goal.returns-in-Ok-load_to_replace-clause-ok
returns-in-Ok-load_to_replace-clause-ok c =
    ap (λ m. stored_conditionally m c.args.hart c.args.address c.args.word) (sym c.self.view_is)
    ∙ untested _ c.args.hart c.args.address c.args.word _ (sym c.load_to_replace.ensures ∙ c.in-Ok-load_to_replace.is) (sym c.has.ensures ∙ c.if-has.false)
    ∙ ap (λ r. Ok (false, record { pages = c.self.inside.pages; reserved = r })) (sym c.release-in-Ok-load_to_replace.ensures)

pub returns-in-Err-load_to_replace-clause-fault : goal.returns-in-Err-load_to_replace-clause-fault
returns-in-Err-load_to_replace-clause-fault c =
    ap (λ m. stored_conditionally m c.args.hart c.args.address c.args.word) (sym c.self.view_is)
    ∙ untested_fault _ c.args.hart c.args.address c.args.word c.in-Err-load_to_replace.fault (sym c.load_to_replace.ensures ∙ c.in-Err-load_to_replace.is)
