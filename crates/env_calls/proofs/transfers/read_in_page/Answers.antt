-- The page of a read is that of the copy, where memory allows it.
use Rattle.std.proofs.Common.{[]}
use Rattle.env_calls.proofs.CallLaws.{read_uses_none, read_lacks}
use Rattle.env_calls.proofs.LeavingLaws.{read_takes_none, read_missed}
use Rattle.env_calls.proofs.transfers.read_in_page.Goals as goal

pub returns-in-Err-Fault-clause-pages : goal.returns-in-Err-Fault-clause-pages
returns-in-Err-Fault-clause-pages g c =
    let answer = rw (c.in-Err-Fault.field-0-is) at c.in-Err-Fault.ensures.answer in
    read_uses_none (g.B.Bus.has c.args.bus.now) (g.B.Bus.marks c.copy_in.new.self) (g.B.Bus.memory c.args.bus.now) c.args.address _ c.in-Err-Fault.field-0-0 answer

pub returns-in-Err-Absent-clause-pages : goal.returns-in-Err-Absent-clause-pages
returns-in-Err-Absent-clause-pages g c =
    let answer = rw (c.in-Err-Absent.field-0-is) at c.in-Err-Absent.ensures.answer in
    (read_lacks (g.B.Bus.memory c.args.bus.now) c.args.address c.in-Err-Absent.page _ answer.0 answer.2, answer.1)

pub returns-in-Err-Fault-clause-leaves : goal.returns-in-Err-Fault-clause-leaves
returns-in-Err-Fault-clause-leaves g c =
    let answer = rw (c.in-Err-Fault.field-0-is) at c.in-Err-Fault.ensures.answer in
    read_takes_none (g.B.Bus.takes c.copy_in.new.self) (g.B.Bus.memory c.args.bus.now) c.args.address _ c.in-Err-Fault.field-0-0 answer

pub returns-in-Err-Absent-clause-leaves : goal.returns-in-Err-Absent-clause-leaves
returns-in-Err-Absent-clause-leaves g c =
    let answer = rw (c.in-Err-Absent.field-0-is) at c.in-Err-Absent.ensures.answer in
    let missed = rw (c.in-Err-Absent.field-0-is) at c.in-Err-Absent.ensures.leaves in
    read_missed (g.B.Bus.misses c.args.bus.now []) (g.B.Bus.memory c.args.bus.now) c.args.address c.in-Err-Absent.page _ answer.0 answer.2 missed
