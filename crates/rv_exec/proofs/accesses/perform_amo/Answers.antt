-- The page of an atomic operation is the bus's where memory allows it.
use Rattle.std.proofs.Common.{◌≡◌, Err, IsOk, inr}
use Rattle.page_memory.specs.Memory.{replaced}
use Rattle.rv_exec.specs.Amo.{amo_result}
use Rattle.rv_exec.proofs.AccessLaws.{amo_used, amo_uses_none, amo_lacks}
use Rattle.rv_exec.proofs.LeavesLaws.{amo_takes, amo_takes_none}
use Rattle.rv_exec.proofs.accesses.perform_amo.Goals as goal

pub returns-in-Ok-clause-pages : goal.returns-in-Ok-clause-pages
returns-in-Ok-clause-pages g c =
    let memory = g.B.Bus.memory c.args.bus.now in
    rw c.compute.ensures.done
    (amo_used (g.B.Bus.has c.args.bus.now) (g.B.Bus.marks c.amo.new.self) memory c.args.kind c.args.address c.args.operand (c.in-Ok.old, g.B.Bus.memory c.amo.new.self) c.in-Ok.ensures.answer.0 c.in-Ok.ensures.answer.1.0 c.in-Ok.ensures.answer.1.1)

pub returns-in-Err-Fault-clause-pages : goal.returns-in-Err-Fault-clause-pages
returns-in-Err-Fault-clause-pages g c =
    let memory = g.B.Bus.memory c.args.bus.now in
    let answer : replaced memory (λ old. amo_result c.args.kind old c.args.operand) c.args.address ≡ Err c.in-Err-Fault.fault =
    rw (c.in-Err-Fault.field-0-is) at c.in-Err-Fault.ensures.answer in
    amo_uses_none (g.B.Bus.has c.args.bus.now) (g.B.Bus.marks c.amo.new.self) memory c.args.kind c.args.address c.args.operand c.in-Err-Fault.fault answer

pub returns-in-Ok-clause-leaves : goal.returns-in-Ok-clause-leaves
returns-in-Ok-clause-leaves g c =
    let memory = g.B.Bus.memory c.args.bus.now in
    rw c.compute.ensures.done
    (amo_takes (g.B.Bus.takes c.amo.new.self) memory c.args.kind c.args.address c.args.operand (c.in-Ok.old, g.B.Bus.memory c.amo.new.self) c.in-Ok.ensures.answer.0 c.in-Ok.ensures.leaves)

pub returns-in-Err-Fault-clause-leaves : goal.returns-in-Err-Fault-clause-leaves
returns-in-Err-Fault-clause-leaves g c =
    let memory = g.B.Bus.memory c.args.bus.now in
    let answer : replaced memory (λ old. amo_result c.args.kind old c.args.operand) c.args.address ≡ Err c.in-Err-Fault.fault =
    rw (c.in-Err-Fault.field-0-is) at c.in-Err-Fault.ensures.answer in
    amo_takes_none (g.B.Bus.takes c.amo.new.self) memory c.args.kind c.args.address c.args.operand c.in-Err-Fault.fault answer

pub returns-in-Err-Absent-clause-leaves : goal.returns-in-Err-Absent-clause-leaves
returns-in-Err-Absent-clause-leaves g c =
    let memory = g.B.Bus.memory c.args.bus.now in
    let answer = rw (c.in-Err-Absent.field-0-is) at c.in-Err-Absent.ensures.answer in
    let missed = rw (c.in-Err-Absent.field-0-is) at c.in-Err-Absent.ensures.leaves in
    let allowed : IsOk (replaced memory (λ old. amo_result c.args.kind old c.args.operand) c.args.address) = answer.2 in
    rw c.in-Err-Absent.page-is (inr (amo_lacks memory c.args.kind c.args.address c.args.operand c.in-Err-Absent.page answer.0 allowed, missed))
