-- The page of the question is resident in a process that is there.
use Rattle.std.proofs.Common.{◌≡◌, ap, sym, ◌∙◌, inr, arith, length, ◌<◌}
use Rattle.machine_core.proofs.Finding.{asked_process}
use Rattle.machine_core.proofs.Cores.{swept_back, swept_told, swept_size}
use Rattle.machine_core.proofs.machine.Core.sweep.Goals as goal

pub sweep_at-swept-requires : goal.sweep_at-swept-requires
sweep_at-swept-requires g c =
    let there = asked_process (record { pager = c.self.inside.pager; slots = c.self.inside.slots; processes = c.self.inside.processes.items; jobs = c.self.inside.jobs.items; copies = c.self.inside.copies.items }) c.in-Some.key c.self.invariant.machine (sym c.question.ensures.exact ∙ c.in-Some.is) in
    let within : c.in-Some.key.process < length c.self.inside.processes.items = there.within in
    let same : length c.as_mut_slice.result.now ≡ length c.self.inside.processes.items = ap length c.as_mut_slice.ensures.value in
    omega (arith, within, same)

pub invariant_of-self : goal.invariant_of-self
invariant_of-self g c = record {
  machine = swept_back c.self.inside.pager c.sweep_at-swept.new.pager c.self.inside.slots c.self.inside.jobs.items c.self.inside.copies.items c.self.inside.processes.items c.as_mut_slice.result.now c.sweep_at-swept.new.processes c.self.inside.processes.len c.in-Some.key c.sweep_at-swept.result
      c.self.invariant.machine (sym c.question.ensures.exact ∙ c.in-Some.is) (omega (arith, c.self.inside.processes.ok.0)) c.as_mut_slice.ensures.value c.sweep_at-swept.ensures;
  roomy =
      let same = swept_size c.self.inside.pager c.sweep_at-swept.new.pager c.self.inside.slots c.self.inside.jobs.items c.self.inside.copies.items c.self.inside.processes.items c.as_mut_slice.result.now c.sweep_at-swept.new.processes c.self.inside.processes.len c.in-Some.key c.sweep_at-swept.result
      c.self.invariant.machine (sym c.question.ensures.exact ∙ c.in-Some.is) (omega (arith, c.self.inside.processes.ok.0)) c.as_mut_slice.ensures.value c.sweep_at-swept.ensures in
      let room = c.self.invariant.roomy in
      omega (arith, same, room);
  spacious =
      let same = swept_size c.self.inside.pager c.sweep_at-swept.new.pager c.self.inside.slots c.self.inside.jobs.items c.self.inside.copies.items c.self.inside.processes.items c.as_mut_slice.result.now c.sweep_at-swept.new.processes c.self.inside.processes.len c.in-Some.key c.sweep_at-swept.result
      c.self.invariant.machine (sym c.question.ensures.exact ∙ c.in-Some.is) (omega (arith, c.self.inside.processes.ok.0)) c.as_mut_slice.ensures.value c.sweep_at-swept.ensures in
      let room = c.self.invariant.spacious in
      omega (arith, same, room);
}

pub returns : goal.returns
returns g c =
    inr
    (swept_told c.self.inside.pager c.sweep_at-swept.new.pager c.self.inside.slots c.self.inside.jobs.items c.self.inside.copies.items c.self.inside.processes.items c.as_mut_slice.result.now c.sweep_at-swept.new.processes c.self.inside.processes.len c.in-Some.key c.sweep_at-swept.result
    c.self.invariant.machine (sym c.question.ensures.exact ∙ c.in-Some.is) (omega (arith, c.self.inside.processes.ok.0)) c.as_mut_slice.ensures.value c.sweep_at-swept.ensures
    c.args.self.now c.swept_reply.result c.self.view_is c.swept_reply.ensures)
