use Rattle.std.proofs.Common.{arith, sym, ap, ◌∙◌, true, false, Ok, ℕ}
use Rattle.page_memory.specs.declared.words.Access.TheVariants.{Store}
use Rattle.page_memory.specs.Memory.{stored_conditionally}
use Rattle.page_memory.proofs.MemoryLaws.{conditional_of, untested}
use Rattle.page_memory.specs.Reservations.{left_by}
use Rattle.paged_memory.specs.access.Access.{LacksPage}
use Rattle.paged_memory.specs.Paged.{memory_in}
use Rattle.paged_memory.proofs.access_laws.ReservationLaws.{conditional_refused, untested_refused}
use Rattle.paged_memory.proofs.access_laws.OnePageLaws.{writes_refused}
use Rattle.paged_memory.proofs.WholeLaws.{turn_goes_on, whole_answered, whole_refused, writes_not, writes_nothing, writes_whole}
use Rattle.paged_memory.proofs.hart_memory.HartMemoryBus.store_conditional.Goals as goal

pub returns-in-Ok-clause-answer : goal.returns-in-Ok-clause-answer
returns-in-Ok-clause-answer g c =
    whole_answered c.args.self.now.hart c.memory.view_is g.S.SwapSlot.content Store c.store.new.tables c.args.address (λ m. stored_conditionally m c.args.hart c.args.address c.args.word) _
    (conditional_of (memory_in g.S.SwapSlot.content c.memory.inside.pages c.memory.inside.reservations) c.args.hart c.args.address c.args.word true _ (sym c.has.ensures ∙ c.if-has.true) c.in-Ok.ensures.answer.0
    ∙ ap (λ r. Ok (true, memory_in g.S.SwapSlot.content c.store.new.pages r)) (ap (λ r. left_by c.args.address 4 r) (sym c.release.ensures) ∙ sym c.end.ensures))
    c.in-Ok.ensures.answer.1

pub returns-in-Err-clause-answer : goal.returns-in-Err-clause-answer
returns-in-Err-clause-answer g c =
    whole_refused c.args.self.now.hart c.memory.view_is g.S.SwapSlot.content Store c.store.new.tables c.args.address (λ m. stored_conditionally m c.args.hart c.args.address c.args.word) _
    (conditional_refused (LacksPage c.memory.inside.pages) (memory_in g.S.SwapSlot.content c.memory.inside.pages c.memory.inside.reservations) c.args.address c.in-Err.refusal c.args.hart c.args.word c.in-Err.ensures.answer)

pub returns-in-Err-clause-writes : goal.returns-in-Err-clause-writes
returns-in-Err-clause-writes g c =
    let fits = c.ranges.address.fits in
    writes_not c.args.self.now.hart c.memory.view_is (omega arith) c.in-Err.ensures.writes

pub returns-in-Ok-load_to_replace-clause-answer : goal.returns-in-Ok-load_to_replace-clause-answer
returns-in-Ok-load_to_replace-clause-answer g c =
    whole_answered c.args.self.now.hart c.memory.view_is g.S.SwapSlot.content Store c.load_to_replace.new.tables c.args.address (λ m. stored_conditionally m c.args.hart c.args.address c.args.word) _
    (untested (memory_in g.S.SwapSlot.content c.memory.inside.pages c.memory.inside.reservations) c.args.hart c.args.address c.args.word _ c.in-Ok-load_to_replace.ensures.answer.0 (sym c.has.ensures ∙ c.if-has.false)
    ∙ ap (λ r. Ok (false, memory_in g.S.SwapSlot.content c.memory.inside.pages r)) (sym c.release-in-Ok-load_to_replace.ensures))
    c.in-Ok-load_to_replace.ensures.answer.1

pub returns-in-Err-load_to_replace-clause-answer : goal.returns-in-Err-load_to_replace-clause-answer
returns-in-Err-load_to_replace-clause-answer g c =
    whole_refused c.args.self.now.hart c.memory.view_is g.S.SwapSlot.content Store c.load_to_replace.new.tables c.args.address (λ m. stored_conditionally m c.args.hart c.args.address c.args.word) _
    (untested_refused (LacksPage c.memory.inside.pages) (memory_in g.S.SwapSlot.content c.memory.inside.pages c.memory.inside.reservations) c.args.address c.in-Err-load_to_replace.refusal c.args.hart c.args.word c.in-Err-load_to_replace.ensures.answer)

pub returns-in-Err-load_to_replace-clause-writes : goal.returns-in-Err-load_to_replace-clause-writes
returns-in-Err-load_to_replace-clause-writes g c =
    let fits = c.ranges.address.fits in
    writes_not c.args.self.now.hart c.memory.view_is (omega arith) (writes_refused {B = ℕ} c.load_to_replace.ensures.holds c.in-Err-load_to_replace.ensures.uses)

pub invariant_of-self : goal.invariant_of-self
invariant_of-self g c = record { in_turn = turn_goes_on c.args.self.now.hart c.memory.view_is c.args.self.now.in_turn c.store.ensures.writes.uses.kept }

pub returns-in-Ok-clause-writes : goal.returns-in-Ok-clause-writes
returns-in-Ok-clause-writes g c =
    let fits = c.ranges.address.fits in
    writes_whole c.args.self.now.hart c.memory.view_is _ c.end.new.self (omega arith) c.in-Ok.ensures.writes

pub returns-in-Ok-load_to_replace-clause-writes : goal.returns-in-Ok-load_to_replace-clause-writes
returns-in-Ok-load_to_replace-clause-writes g c =
    let fits = c.ranges.address.fits in
    writes_nothing c.args.self.now.hart c.memory.view_is _ c.release-in-Ok-load_to_replace.new.self (omega arith) c.in-Ok-load_to_replace.ensures.uses c.in-Ok-load_to_replace.ensures.takes

pub invariant_of-self-in-Ok-load_to_replace : goal.invariant_of-self-in-Ok-load_to_replace
invariant_of-self-in-Ok-load_to_replace g c = record { in_turn = turn_goes_on c.args.self.now.hart c.memory.view_is c.args.self.now.in_turn c.in-Ok-load_to_replace.ensures.uses.kept }
