use Rattle.std.proofs.Common.{arith, sym, ap, ◌∙◌, Ok}
use Rattle.page_memory.specs.declared.words.Access.TheVariants.{Store}
use Rattle.page_memory.specs.Memory.{replaced}
use Rattle.page_memory.proofs.MemoryLaws.{replaced_of}
use Rattle.rv_exec.specs.Amo.{amo_result}
use Rattle.paged_memory.specs.access.Access.{LacksPage}
use Rattle.paged_memory.specs.Paged.{memory_in}
use Rattle.paged_memory.proofs.access_laws.ReservationLaws.{replace_refused}
use Rattle.paged_memory.proofs.WholeLaws.{turn_goes_on, whole_answered, whole_refused, writes_not}
use Rattle.paged_memory.proofs.hart_memory.HartMemoryBus.amo.Goals as goal

pub returns-in-Ok-clause-answer : goal.returns-in-Ok-clause-answer
returns-in-Ok-clause-answer g c =
    whole_answered c.args.self.now.hart c.memory.view_is g.S.SwapSlot.content Store c.amo.new.tables c.args.address (λ m. replaced m (λ old. amo_result c.args.operation old c.args.operand) c.args.address) _
    (replaced_of (memory_in g.S.SwapSlot.content c.memory.inside.pages c.memory.inside.reservations) (λ old. amo_result c.args.operation old c.args.operand) c.args.address c.in-Ok.old _ c.in-Ok.ensures.answer.0
    ∙ ap (λ r. Ok (c.in-Ok.old, memory_in g.S.SwapSlot.content c.amo.new.pages r)) (sym c.end.ensures))
    c.in-Ok.ensures.answer.1

pub returns-in-Err-clause-answer : goal.returns-in-Err-clause-answer
returns-in-Err-clause-answer g c =
    whole_refused c.args.self.now.hart c.memory.view_is g.S.SwapSlot.content Store c.amo.new.tables c.args.address (λ m. replaced m (λ old. amo_result c.args.operation old c.args.operand) c.args.address) _
    (replace_refused (LacksPage c.memory.inside.pages) (memory_in g.S.SwapSlot.content c.memory.inside.pages c.memory.inside.reservations) c.args.address c.in-Err.refusal (λ old. amo_result c.args.operation old c.args.operand) c.in-Err.ensures.answer)

pub returns-in-Err-clause-writes : goal.returns-in-Err-clause-writes
returns-in-Err-clause-writes g c =
    let fits = c.ranges.address.fits in
    writes_not c.args.self.now.hart c.memory.view_is (omega arith) c.in-Err.ensures.writes

pub invariant_of-self : goal.invariant_of-self
invariant_of-self g c = record { in_turn = turn_goes_on c.args.self.now.hart c.memory.view_is c.args.self.now.in_turn c.amo.ensures.writes.uses.kept }
