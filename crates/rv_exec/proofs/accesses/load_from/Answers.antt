-- The page of a load is the bus's where memory allows it.
use Rattle.std.proofs.Common.{◌≡◌, Ok, Err}
use Rattle.page_memory.specs.Memory.{loaded}
use Rattle.rv_exec.specs.Access.{load_width}
use Rattle.rv_exec.proofs.AccessLaws.{load_used, load_uses_none}
use Rattle.rv_exec.proofs.accesses.load_from.Goals as goal

pub returns-in-Ok-clause-pages : goal.returns-in-Ok-clause-pages
returns-in-Ok-clause-pages g c =
    let memory = g.B.Bus.memory c.args.bus.now in
    let answer : loaded memory (load_width c.args.kind) c.args.address ≡ Ok c.in-Ok.number = rw (← c.width_of_load.ensures) c.in-Ok.ensures.answer.0 in
    rw c.compute.ensures.done
    (load_used (g.B.Bus.has c.args.bus.now) (g.B.Bus.marks c.load.new.self) memory c.args.kind c.args.address c.in-Ok.number answer c.in-Ok.ensures.answer.1.0 c.in-Ok.ensures.answer.1.1)

pub returns-in-Err-Fault-clause-pages : goal.returns-in-Err-Fault-clause-pages
returns-in-Err-Fault-clause-pages g c =
    let memory = g.B.Bus.memory c.args.bus.now in
    let answer : loaded memory (load_width c.args.kind) c.args.address ≡ Err c.in-Err-Fault.fault =
    rw (← c.width_of_load.ensures) (rw (c.in-Err-Fault.field-0-is) at c.in-Err-Fault.ensures.answer) in
    load_uses_none (g.B.Bus.has c.args.bus.now) (g.B.Bus.marks c.load.new.self) memory c.args.kind c.args.address c.in-Err-Fault.fault answer
