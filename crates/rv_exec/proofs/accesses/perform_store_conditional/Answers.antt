-- The page of a store-conditional is the bus's where memory allows it.
use Rattle.std.proofs.Common.{◌≡◌, Err, IsOk, inr}
use Rattle.page_memory.specs.Words.{page_number}
use Rattle.page_memory.specs.Memory.{stored_conditionally}
use Rattle.rv_exec.proofs.AccessLaws.{conditional_used, conditional_uses_none, conditional_lacks}
use Rattle.rv_exec.proofs.LeavesLaws.{conditional_takes, conditional_takes_none}
use Rattle.rv_exec.proofs.accesses.perform_store_conditional.Goals as goal

pub returns-in-Ok-clause-pages : goal.returns-in-Ok-clause-pages
returns-in-Ok-clause-pages g c =
    let memory = g.B.Bus.memory c.args.bus.now in
    rw c.compute.ensures.done
    (conditional_used (g.B.Bus.has c.args.bus.now) (g.B.Bus.marks c.store_conditional.new.self) memory c.args.hart c.args.address c.args.word (c.in-Ok.is_stored, g.B.Bus.memory c.store_conditional.new.self) c.in-Ok.ensures.answer.0 c.in-Ok.ensures.answer.1.0 c.in-Ok.ensures.answer.1.1)

pub returns-in-Err-Fault-clause-pages : goal.returns-in-Err-Fault-clause-pages
returns-in-Err-Fault-clause-pages g c =
    let memory = g.B.Bus.memory c.args.bus.now in
    let answer : stored_conditionally memory c.args.hart c.args.address c.args.word ≡ Err c.in-Err-Fault.fault =
    rw (c.in-Err-Fault.field-0-is) at c.in-Err-Fault.ensures.answer in
    conditional_uses_none (g.B.Bus.has c.args.bus.now) (g.B.Bus.marks c.store_conditional.new.self) memory c.args.hart c.args.address c.args.word c.in-Err-Fault.fault answer

pub returns-in-Err-Absent-clause-pages : goal.returns-in-Err-Absent-clause-pages
returns-in-Err-Absent-clause-pages g c =
    let memory = g.B.Bus.memory c.args.bus.now in
    let answer = rw (c.in-Err-Absent.field-0-is) at c.in-Err-Absent.ensures.answer in
    let page : c.in-Err-Absent.page ≡ page_number c.args.address = answer.0 in
    let allowed : IsOk (stored_conditionally memory c.args.hart c.args.address c.args.word) = answer.2 in
    rw c.in-Err-Absent.page-is (conditional_lacks memory c.args.hart c.args.address c.args.word c.in-Err-Absent.page page allowed, answer.1)

pub returns-in-Ok-clause-leaves : goal.returns-in-Ok-clause-leaves
returns-in-Ok-clause-leaves g c =
    let memory = g.B.Bus.memory c.args.bus.now in
    rw c.compute.ensures.done
    (conditional_takes (g.B.Bus.takes c.store_conditional.new.self) memory c.args.hart c.args.address c.args.word (c.in-Ok.is_stored, g.B.Bus.memory c.store_conditional.new.self) c.in-Ok.ensures.answer.0 c.in-Ok.ensures.leaves)

pub returns-in-Err-Fault-clause-leaves : goal.returns-in-Err-Fault-clause-leaves
returns-in-Err-Fault-clause-leaves g c =
    let memory = g.B.Bus.memory c.args.bus.now in
    let answer : stored_conditionally memory c.args.hart c.args.address c.args.word ≡ Err c.in-Err-Fault.fault =
    rw (c.in-Err-Fault.field-0-is) at c.in-Err-Fault.ensures.answer in
    conditional_takes_none (g.B.Bus.takes c.store_conditional.new.self) memory c.args.hart c.args.address c.args.word c.in-Err-Fault.fault answer

pub returns-in-Err-Absent-clause-leaves : goal.returns-in-Err-Absent-clause-leaves
returns-in-Err-Absent-clause-leaves g c =
    let memory = g.B.Bus.memory c.args.bus.now in
    let answer = rw (c.in-Err-Absent.field-0-is) at c.in-Err-Absent.ensures.answer in
    let missed = rw (c.in-Err-Absent.field-0-is) at c.in-Err-Absent.ensures.leaves in
    let allowed : IsOk (stored_conditionally memory c.args.hart c.args.address c.args.word) = answer.2 in
    rw c.in-Err-Absent.page-is (inr (conditional_lacks memory c.args.hart c.args.address c.args.word c.in-Err-Absent.page answer.0 allowed, missed))
