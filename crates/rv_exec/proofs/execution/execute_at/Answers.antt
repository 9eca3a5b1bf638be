-- The line and its pages are those that memory's answer to the fetch leads to.
use Rattle.std.proofs.Common.{◌≡◌, sym, ap, ◌∙◌, subst, [], Ok, Err, IsOk, inl}
use Rattle.page_memory.specs.Words.{page_number}
use Rattle.page_memory.specs.Memory.{fetched}
use Rattle.rv_isa.specs.Table.{insn_of}
use Rattle.rv_exec.specs.Line.{line, decoded_line}
use Rattle.rv_exec.proofs.LineLaws.{line_fetched, line_fault, uses_fetched, used_fault, contains_fetch}
use Rattle.rv_exec.proofs.LeavesLaws.{leaves_fetched, leaves_unfetched}
use Rattle.rv_exec.specs.Outcomes.{Follows}
use Rattle.rv_exec.specs.Bounds.{Bounds}
use Rattle.rv_exec.proofs.BoundsLaws.{bounds_fetched, bounds_refused}
use Rattle.rv_exec.specs.Registers.{with_pc}
use Rattle.rv_exec.specs.Uses.{page_of_access}
use Rattle.rv_exec.proofs.execution.execute_at.Goals as goal

pub returns-in-Ok-clause-line : goal.returns-in-Ok-clause-line
unfolding with_pc
returns-in-Ok-clause-line g c =
    let regs = with_pc c.args.regs.now c.args.pc.now in
    let memory = g.B.Bus.memory c.args.bus.now in
    let word = c.in-Ok.word in
    let fetch : fetched memory regs.pc ≡ Ok word = c.in-Ok.ensures.answer.0 in
    let whole : line c.args.hart regs memory ≡ decoded_line c.args.hart regs (g.B.Bus.memory c.fetch.new.self) word (insn_of word) =
    line_fetched c.args.hart regs memory word fetch ∙ ap (λ m. decoded_line c.args.hart regs m word (insn_of word)) (sym c.in-Ok.ensures.same) in
    subst (λ l. Follows l c.perform.result (with_pc c.perform.new.regs c.perform.new.pc) (g.B.Bus.memory c.perform.new.bus)) (sym whole) c.perform.ensures.line

pub returns-in-Ok-clause-pages : goal.returns-in-Ok-clause-pages
unfolding with_pc
returns-in-Ok-clause-pages g c =
    let regs = with_pc c.args.regs.now c.args.pc.now in
    let memory = g.B.Bus.memory c.args.bus.now in
    let fetch : fetched memory regs.pc ≡ Ok c.in-Ok.word = c.in-Ok.ensures.answer.0 in
    let first : g.B.Bus.has c.args.bus.now (page_number regs.pc) = c.in-Ok.ensures.answer.1.0 in
    let mark : g.B.Bus.marks c.fetch.new.self (page_number regs.pc) = c.in-Ok.ensures.answer.1.1 in
    uses_fetched (g.B.Bus.has c.args.bus.now) (g.B.Bus.marks c.fetch.new.self) (g.B.Bus.lacks c.args.bus.now)
    (g.B.Bus.has c.fetch.new.self) (g.B.Bus.marks c.perform.new.bus) (g.B.Bus.lacks c.fetch.new.self)
    regs memory (g.B.Bus.memory c.fetch.new.self) c.in-Ok.word c.perform.result
    fetch c.in-Ok.ensures.same
    (λ page h. g.met.B.Bus.had_before _ _ page c.in-Ok.ensures.kept h)
    (λ page h. g.met.B.Bus.lacked_before _ _ page c.in-Ok.ensures.kept h)
    (λ page h. g.met.B.Bus.marked_on _ _ page c.perform.ensures.kept h)
    first mark c.perform.ensures.pages

pub returns-in-Err-Fault-clause-line : goal.returns-in-Err-Fault-clause-line
unfolding with_pc
returns-in-Err-Fault-clause-line g c =
    let fetch : fetched (g.B.Bus.memory c.args.bus.now) c.args.pc.now ≡ Err c.in-Err-Fault.fault =
    rw (c.in-Err-Fault.field-0-is) at c.in-Err-Fault.ensures.answer in
    rw c.of_fetch.ensures (line_fault c.args.hart (with_pc c.args.regs.now c.args.pc.now) (g.B.Bus.memory c.args.bus.now) c.in-Err-Fault.fault fetch)

pub returns-in-Err-Fault-clause-pages : goal.returns-in-Err-Fault-clause-pages
unfolding with_pc
returns-in-Err-Fault-clause-pages g c =
    let fetch : fetched (g.B.Bus.memory c.args.bus.now) c.args.pc.now ≡ Err c.in-Err-Fault.fault =
    rw (c.in-Err-Fault.field-0-is) at c.in-Err-Fault.ensures.answer in
    used_fault (g.B.Bus.has c.args.bus.now) (g.B.Bus.marks c.fetch.new.self) (with_pc c.args.regs.now c.args.pc.now) (g.B.Bus.memory c.args.bus.now) c.in-Err-Fault.fault fetch

pub returns-in-Err-Absent-clause-pages : goal.returns-in-Err-Absent-clause-pages
unfolding with_pc
returns-in-Err-Absent-clause-pages g c =
    let answer = rw (c.in-Err-Absent.field-0-is) at c.in-Err-Absent.ensures.answer in
    let page : c.in-Err-Absent.page ≡ page_number c.args.pc.now = answer.0 in
    let allowed : IsOk (fetched (g.B.Bus.memory c.args.bus.now) c.args.pc.now) = answer.2 in
    (contains_fetch (with_pc c.args.regs.now c.args.pc.now) (g.B.Bus.memory c.args.bus.now) c.in-Err-Absent.page page allowed, answer.1)

pub returns-in-Ok-clause-bound : goal.returns-in-Ok-clause-bound
unfolding with_pc
returns-in-Ok-clause-bound g c =
    let regs = with_pc c.args.regs.now c.args.pc.now in
    let memory = g.B.Bus.memory c.args.bus.now in
    let fetch : fetched memory regs.pc ≡ Ok c.in-Ok.word = c.in-Ok.ensures.answer.0 in
    let first : Bounds (g.B.Bus.within c.args.bus.now) (g.B.Bus.within c.fetch.new.self) (page_of_access regs.pc (fetched memory regs.pc)) [] =
    c.in-Ok.ensures.bound in
    bounds_fetched (g.B.Bus.within c.args.bus.now) (g.B.Bus.within c.fetch.new.self) (g.B.Bus.within c.perform.new.bus)
    regs memory (g.B.Bus.memory c.fetch.new.self) c.in-Ok.word fetch c.in-Ok.ensures.same first c.perform.ensures.bound

pub returns-in-Err-Fault-clause-bound : goal.returns-in-Err-Fault-clause-bound
unfolding with_pc
returns-in-Err-Fault-clause-bound g c =
    let regs = with_pc c.args.regs.now c.args.pc.now in
    let memory = g.B.Bus.memory c.args.bus.now in
    let first : Bounds (g.B.Bus.within c.args.bus.now) (g.B.Bus.within c.fetch.new.self) (page_of_access regs.pc (fetched memory regs.pc)) [] =
    c.in-Err-Fault.ensures.bound in
    bounds_refused (g.B.Bus.within c.args.bus.now) (g.B.Bus.within c.fetch.new.self) regs memory first

pub returns-in-Err-Absent-clause-bound : goal.returns-in-Err-Absent-clause-bound
unfolding with_pc
returns-in-Err-Absent-clause-bound g c =
    let regs = with_pc c.args.regs.now c.args.pc.now in
    let memory = g.B.Bus.memory c.args.bus.now in
    let first : Bounds (g.B.Bus.within c.args.bus.now) (g.B.Bus.within c.fetch.new.self) (page_of_access regs.pc (fetched memory regs.pc)) [] =
    c.in-Err-Absent.ensures.bound in
    bounds_refused (g.B.Bus.within c.args.bus.now) (g.B.Bus.within c.fetch.new.self) regs memory first

pub returns-in-Ok-clause-leaves : goal.returns-in-Ok-clause-leaves
unfolding with_pc
returns-in-Ok-clause-leaves g c =
    let regs = with_pc c.args.regs.now c.args.pc.now in
    let memory = g.B.Bus.memory c.args.bus.now in
    let fetch : fetched memory regs.pc ≡ Ok c.in-Ok.word = c.in-Ok.ensures.answer.0 in
    let mark : g.B.Bus.marks c.fetch.new.self (page_number regs.pc) = c.in-Ok.ensures.answer.1.1 in
    leaves_fetched (g.B.Bus.takes c.perform.new.bus) (g.B.Bus.marks c.fetch.new.self) (g.B.Bus.marks c.perform.new.bus)
    (g.B.Bus.misses c.args.bus.now) (g.B.Bus.misses c.fetch.new.self) (g.B.Bus.misses c.perform.new.bus)
    regs memory (g.B.Bus.memory c.fetch.new.self) c.in-Ok.word c.perform.result
    fetch c.in-Ok.ensures.same c.in-Ok.ensures.leaves mark
    (λ page h. g.met.B.Bus.marked_on _ _ page c.perform.ensures.kept h)
    c.perform.ensures.leaves

pub returns-in-Err-Fault-clause-leaves : goal.returns-in-Err-Fault-clause-leaves
unfolding with_pc
returns-in-Err-Fault-clause-leaves g c =
    let fetch : fetched (g.B.Bus.memory c.args.bus.now) c.args.pc.now ≡ Err c.in-Err-Fault.fault =
    rw (c.in-Err-Fault.field-0-is) at c.in-Err-Fault.ensures.answer in
    leaves_unfetched (g.B.Bus.takes c.fetch.new.self) (with_pc c.args.regs.now c.args.pc.now) (g.B.Bus.memory c.args.bus.now) c.in-Err-Fault.fault fetch

pub returns-in-Err-Absent-clause-leaves : goal.returns-in-Err-Absent-clause-leaves
unfolding with_pc
returns-in-Err-Absent-clause-leaves g c =
    let answer = rw (c.in-Err-Absent.field-0-is) at c.in-Err-Absent.ensures.answer in
    let missed = rw (c.in-Err-Absent.field-0-is) at c.in-Err-Absent.ensures.leaves in
    inl (answer.0, missed)
