use Rattle.std.proofs.Common.{length, arith, ap}
use Rattle.paged_memory.specs.Paged.{memory_of}
use Rattle.space_core.specs.RunningValue.{RunningValue}
use Rattle.space_core.proofs.StepMoves.{is_started, whole_set}
use Rattle.space_core.proofs.StepsOn.{hart_runs}
use Rattle.space_core.proofs.running.Running.run_each.Goals as goal

pub index_mut-regs-requires : goal.index_mut-regs-requires
index_mut-regs-requires g c =
    let memory = memory_of g.S.SwapSlot.content c.args.memory.now in
    let within = is_started c.args.hart (record { harts = c.self.inside.harts.items; environment = c.self.inside.env; ending = c.self.inside.end }) c.args.self.now memory (c.self.invariant.whole memory) c.self.view_is c.requires.may in
    omega (arith, within, c.self.inside.harts.ok.0)

pub run_each-halt-requires : goal.run_each-halt-requires
run_each-halt-requires g c =
    let memory = memory_of g.S.SwapSlot.content c.args.memory.now in
    let within = is_started c.args.hart (record { harts = c.self.inside.harts.items; environment = c.self.inside.env; ending = c.self.inside.end }) c.args.self.now memory (c.self.invariant.whole memory) c.self.view_is c.requires.may in
    let cached = c.requires.cached in
    let same = ap (λ (v : RunningValue). length v.harts) c.self.view_is in
    record { started = omega (arith, within, cached, same); shows = c.requires.shows }

pub invariant_of-self : goal.invariant_of-self
invariant_of-self g c = record {
  whole = λ memory. whole_set c.args.hart (record { harts = c.self.inside.harts.items; environment = c.self.inside.env; ending = c.self.inside.end }) c.run_each-halt.new.regs memory (c.self.invariant.whole memory);
  roomy = c.self.invariant.roomy;
}

pub returns-clause-ran : goal.returns-clause-ran
returns-clause-ran g c =
    hart_runs c.args.hart _ (record { harts = c.self.inside.harts.items; environment = c.self.inside.env; ending = c.self.inside.end }) c.args.self.now c.index_mut-regs.result.now c.run_each-halt.new.regs
    c.self.view_is c.index_mut-regs.ensures.value c.run_each-halt.ensures.ran c.self.invariant.whole
