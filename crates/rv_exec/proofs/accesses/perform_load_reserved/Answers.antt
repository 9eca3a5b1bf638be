-- The page of a load-reserved is the bus's where memory allows it.
use Rattle.std.proofs.Common.{◌≡◌, Err, IsOk}
use Rattle.page_memory.specs.Words.{page_number}
use Rattle.page_memory.specs.Memory.{loaded_reserved}
use Rattle.rv_exec.proofs.AccessLaws.{reserving_used, reserving_uses_none, reserving_lacks}
use Rattle.rv_exec.proofs.accesses.perform_load_reserved.Goals as goal

pub returns-in-Ok-clause-pages : goal.returns-in-Ok-clause-pages
returns-in-Ok-clause-pages g c =
    let memory = g.B.Bus.memory c.args.bus.now in
    rw c.compute.ensures.done
    (reserving_used (g.B.Bus.has c.args.bus.now) (g.B.Bus.marks c.load_reserved.new.self) memory c.args.hart c.args.address (c.in-Ok.word, g.B.Bus.memory c.load_reserved.new.self) c.in-Ok.ensures.answer.0 c.in-Ok.ensures.answer.1.0 c.in-Ok.ensures.answer.1.1)

pub returns-in-Err-Fault-clause-pages : goal.returns-in-Err-Fault-clause-pages
returns-in-Err-Fault-clause-pages g c =
    let memory = g.B.Bus.memory c.args.bus.now in
    let answer : loaded_reserved memory c.args.hart c.args.address ≡ Err c.in-Err-Fault.fault =
    rw (c.in-Err-Fault.field-0-is) at c.in-Err-Fault.ensures.answer in
    reserving_uses_none (g.B.Bus.has c.args.bus.now) (g.B.Bus.marks c.load_reserved.new.self) memory c.args.hart c.args.address c.in-Err-Fault.fault answer

pub returns-in-Err-Absent-clause-pages : goal.returns-in-Err-Absent-clause-pages
returns-in-Err-Absent-clause-pages g c =
    let memory = g.B.Bus.memory c.args.bus.now in
    let answer = rw (c.in-Err-Absent.field-0-is) at c.in-Err-Absent.ensures.answer in
    let page : c.in-Err-Absent.page ≡ page_number c.args.address = answer.0 in
    let allowed : IsOk (loaded_reserved memory c.args.hart c.args.address) = answer.2 in
    rw c.in-Err-Absent.page-is (reserving_lacks memory c.args.hart c.args.address c.in-Err-Absent.page page allowed, answer.1)
