-- The pc that was taken out is the registers' own, and the one that is written back is the last.
use Rattle.std.proofs.Common.{◌≡◌, sym, ap, ◌∙◌, subst}
use Rattle.rv_exec.specs.Line.{line}
use Rattle.rv_exec.specs.Outcomes.{Follows, UnlessDone, UsesPages}
use Rattle.page_memory.specs.Words.{page_number}
use Rattle.rv_exec.specs.Bounds.{Bounds}
use Rattle.rv_exec.specs.Leaves.{LeavesPages}
use Rattle.rv_exec.specs.Registers.{Registers, with_pc}
use Rattle.rv_exec.proofs.RegistersLaws.{own_pc}
use Rattle.rv_exec.specs.Uses.{pages_used, pages_stored}
use Rattle.rv_exec.proofs.execution.execute.Goals as goal

pub returns-clause-line : goal.returns-clause-line
returns-clause-line g c =
    let own : with_pc c.args.regs.now c.pc-pc.result ≡ c.args.regs.now = ap (λ p. with_pc c.args.regs.now p) c.pc-pc.ensures ∙ own_pc c.args.regs.now in
    subst (λ r. Follows (line c.args.hart c.args.regs.now (g.B.Bus.memory c.args.bus.now)) c.execute_at-outcome.result r (g.B.Bus.memory c.execute_at-outcome.new.bus)) (sym c.set_pc.ensures)
    (subst (λ r. Follows (line c.args.hart r (g.B.Bus.memory c.args.bus.now)) c.execute_at-outcome.result (with_pc c.execute_at-outcome.new.regs c.execute_at-outcome.new.pc) (g.B.Bus.memory c.execute_at-outcome.new.bus)) own
    c.execute_at-outcome.ensures.line)

pub returns-clause-registers_stay : goal.returns-clause-registers_stay
returns-clause-registers_stay g c =
    let own : with_pc c.args.regs.now c.pc-pc.result ≡ c.args.regs.now = ap (λ p. with_pc c.args.regs.now p) c.pc-pc.ensures ∙ own_pc c.args.regs.now in
    subst (λ r. UnlessDone c.execute_at-outcome.result (r ≡ c.args.regs.now)) (sym c.set_pc.ensures)
    (subst (λ r. UnlessDone c.execute_at-outcome.result (with_pc c.execute_at-outcome.new.regs c.execute_at-outcome.new.pc ≡ r)) own c.execute_at-outcome.ensures.registers_stay)

pub returns-clause-pages : goal.returns-clause-pages
returns-clause-pages g c =
    let own : with_pc c.args.regs.now c.pc-pc.result ≡ c.args.regs.now = ap (λ p. with_pc c.args.regs.now p) c.pc-pc.ensures ∙ own_pc c.args.regs.now in
    subst (λ r. UsesPages (g.B.Bus.has c.args.bus.now) (g.B.Bus.marks c.execute_at-outcome.new.bus) (g.B.Bus.lacks c.args.bus.now) (pages_used r (g.B.Bus.memory c.args.bus.now)) c.execute_at-outcome.result) own
    c.execute_at-outcome.ensures.pages

pub returns-clause-bound : goal.returns-clause-bound
returns-clause-bound g c =
    let own : with_pc c.args.regs.now c.pc-pc.result ≡ c.args.regs.now = ap (λ p. with_pc c.args.regs.now p) c.pc-pc.ensures ∙ own_pc c.args.regs.now in
    subst (λ r. Bounds (g.B.Bus.within c.args.bus.now) (g.B.Bus.within c.execute_at-outcome.new.bus) (pages_used r (g.B.Bus.memory c.args.bus.now)) (pages_stored r (g.B.Bus.memory c.args.bus.now))) own
    c.execute_at-outcome.ensures.bound

pub returns-clause-leaves : goal.returns-clause-leaves
returns-clause-leaves g c =
    let own : with_pc c.args.regs.now c.pc-pc.result ≡ c.args.regs.now = ap (λ p. with_pc c.args.regs.now p) c.pc-pc.ensures ∙ own_pc c.args.regs.now in
    let bus = c.execute_at-outcome.new.bus in
    subst (λ (r : Registers). LeavesPages (g.B.Bus.takes bus) (g.B.Bus.marks bus) (g.B.Bus.misses c.args.bus.now) (g.B.Bus.misses bus) (page_number r.pc) (pages_stored r (g.B.Bus.memory c.args.bus.now)) c.execute_at-outcome.result) own
    c.execute_at-outcome.ensures.leaves
