-- The page of a store is the bus's where memory allows it.
use Rattle.std.proofs.Common.{◌≡◌, Ok, Err, IsOk, inr}
use Rattle.page_memory.specs.Memory.{stored}
use Rattle.rv_exec.specs.Access.{store_width}
use Rattle.rv_exec.proofs.AccessLaws.{store_used, store_uses_none, store_lacks}
use Rattle.rv_exec.proofs.LeavesLaws.{store_takes, store_takes_none}
use Rattle.rv_exec.proofs.accesses.store_to.Goals as goal

pub returns-in-Ok-clause-pages : goal.returns-in-Ok-clause-pages
returns-in-Ok-clause-pages g c =
    let memory = g.B.Bus.memory c.args.bus.now in
    let changed = g.B.Bus.memory c.store.new.self in
    let answer : stored memory (store_width c.args.kind) c.args.address c.args.word ≡ Ok changed = rw (← c.width_of_store.ensures) c.in-Ok.ensures.answer.0 in
    rw c.advance.ensures.done
    (store_used (g.B.Bus.has c.args.bus.now) (g.B.Bus.marks c.store.new.self) memory c.args.kind c.args.address c.args.word changed answer c.in-Ok.ensures.answer.1.0 c.in-Ok.ensures.answer.1.1)

pub returns-in-Err-Fault-clause-pages : goal.returns-in-Err-Fault-clause-pages
returns-in-Err-Fault-clause-pages g c =
    let memory = g.B.Bus.memory c.args.bus.now in
    let answer : stored memory (store_width c.args.kind) c.args.address c.args.word ≡ Err c.in-Err-Fault.fault =
    rw (← c.width_of_store.ensures) (rw (c.in-Err-Fault.field-0-is) at c.in-Err-Fault.ensures.answer) in
    store_uses_none (g.B.Bus.has c.args.bus.now) (g.B.Bus.marks c.store.new.self) memory c.args.kind c.args.address c.args.word c.in-Err-Fault.fault answer

pub returns-in-Ok-clause-leaves : goal.returns-in-Ok-clause-leaves
returns-in-Ok-clause-leaves g c =
    let memory = g.B.Bus.memory c.args.bus.now in
    let changed = g.B.Bus.memory c.store.new.self in
    let answer : stored memory (store_width c.args.kind) c.args.address c.args.word ≡ Ok changed = rw (← c.width_of_store.ensures) c.in-Ok.ensures.answer.0 in
    rw c.advance.ensures.done (store_takes (g.B.Bus.takes c.store.new.self) memory c.args.kind c.args.address c.args.word changed answer c.in-Ok.ensures.leaves)

pub returns-in-Err-Fault-clause-leaves : goal.returns-in-Err-Fault-clause-leaves
returns-in-Err-Fault-clause-leaves g c =
    let memory = g.B.Bus.memory c.args.bus.now in
    let answer : stored memory (store_width c.args.kind) c.args.address c.args.word ≡ Err c.in-Err-Fault.fault =
    rw (← c.width_of_store.ensures) (rw (c.in-Err-Fault.field-0-is) at c.in-Err-Fault.ensures.answer) in
    store_takes_none (g.B.Bus.takes c.store.new.self) memory c.args.kind c.args.address c.args.word c.in-Err-Fault.fault answer

pub returns-in-Err-Absent-clause-leaves : goal.returns-in-Err-Absent-clause-leaves
returns-in-Err-Absent-clause-leaves g c =
    let memory = g.B.Bus.memory c.args.bus.now in
    let answer = rw (c.in-Err-Absent.field-0-is) at c.in-Err-Absent.ensures.answer in
    let missed = rw (c.in-Err-Absent.field-0-is) at c.in-Err-Absent.ensures.leaves in
    let allowed : IsOk (stored memory (store_width c.args.kind) c.args.address c.args.word) = rw (← c.width_of_store.ensures) answer.2 in
    inr (store_lacks memory c.args.kind c.args.address c.args.word c.in-Err-Absent.page answer.0 allowed, missed)
