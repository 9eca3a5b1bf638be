use Rattle.std.proofs.Common.{arith, ap, subst, length}
use Rattle.flat_machine.specs.Process.{IsWhole}
use Rattle.paged_memory.specs.Paged.{memory_of}
use Rattle.space_core.specs.RunningValue.{RunningValue, with_memory}
use Rattle.space_core.proofs.StepEnds.{ended, not_ended, taken_as, ends_as}
use Rattle.space_core.proofs.StepMoves.{is_started, whole_still}
use Rattle.space_core.proofs.running.Running.end_step.Goals as goal

pub index_mut-regs-requires : goal.index_mut-regs-requires
index_mut-regs-requires g c =
    let memory = memory_of g.S.SwapSlot.content c.args.memory.now in
    let within = is_started c.args.hart (record { harts = c.self.inside.harts.items; environment = c.self.inside.env; ending = c.self.inside.end }) c.args.self.now memory (c.self.invariant.whole memory) c.self.view_is c.requires.may in
    omega (arith, within, c.self.inside.harts.ok.0)

pub finish_on-requires-clause-started : goal.finish_on-requires-clause-started
finish_on-requires-clause-started g c =
    let memory = memory_of g.S.SwapSlot.content c.args.memory.now in
    let within = is_started c.args.hart (record { harts = c.self.inside.harts.items; environment = c.self.inside.env; ending = c.self.inside.end }) c.args.self.now memory (c.self.invariant.whole memory) c.self.view_is c.requires.may in
    let cached = c.requires.cached in
    let same = ap (λ (v : RunningValue). length v.harts) c.self.view_is in
    omega (arith, within, cached, same)

pub settle-requires : goal.settle-requires
settle-requires g c =
    let inside : RunningValue = record { harts = c.self.inside.harts.items; environment = c.self.inside.env; ending = c.self.inside.end } in
    let did = c.in-Ok.ensures in
    let took = ended g.S.SwapSlot.content g.S.SwapSlot.honest c.args.hart c.args.outcome inside c.args.self.now c.args.memory.now c.finish_on.new.memory c.index_mut-regs.result.now c.in-Ok.stepped c.finish_on.new.regs c.finish_on.new.env
    c.self.view_is c.self.invariant.whole c.requires.may c.index_mut-regs.ensures.value c.requires.left did.rest did.leaves did.kept in
    record { room = took.roomy c.self.inside.harts.cap c.self.invariant.roomy }

pub invariant_of-self : goal.invariant_of-self
invariant_of-self g c =
    let inside : RunningValue = record { harts = c.self.inside.harts.items; environment = c.self.inside.env; ending = c.self.inside.end } in
    let did = c.in-Ok.ensures in
    let took = ended g.S.SwapSlot.content g.S.SwapSlot.honest c.args.hart c.args.outcome inside c.args.self.now c.args.memory.now c.finish_on.new.memory c.index_mut-regs.result.now c.in-Ok.stepped c.finish_on.new.regs c.finish_on.new.env
    c.self.view_is c.self.invariant.whole c.requires.may c.index_mut-regs.ensures.value c.requires.left did.rest did.leaves did.kept in
    let same = taken_as g.S.SwapSlot.content g.S.SwapSlot.honest c.args.hart c.in-Ok.stepped inside c.finish_on.new.regs c.finish_on.new.env c.settle.new.harts.items c.settle.new.end c.pc-pc.result c.settle.ensures.harts c.settle.ensures.end c.pc-pc.ensures in
    record {
      whole = λ any. subst (λ (v : RunningValue). IsWhole (with_memory v any)) same (took.taken.whole any);
      roomy = (let same = c.settle.ensures.room in let before = c.self.invariant.roomy in omega arith);
    }

pub invariant_of-self-in-Err : goal.invariant_of-self-in-Err
invariant_of-self-in-Err g c =
    let inside : RunningValue = record { harts = c.self.inside.harts.items; environment = c.self.inside.env; ending = c.self.inside.end } in
    let rest = c.in-Err.ensures.rest in
    record {
      whole = λ any. whole_still c.args.hart inside any c.index_mut-regs.result.now c.finish_on.new.regs c.finish_on.new.env (c.self.invariant.whole any) c.index_mut-regs.ensures.value rest.regs_stay rest.env_stays;
      roomy = c.self.invariant.roomy;
    }

pub returns-in-Ok : goal.returns-in-Ok
returns-in-Ok g c = record {
  ends = λ left.
      let inside : RunningValue = record { harts = c.self.inside.harts.items; environment = c.self.inside.env; ending = c.self.inside.end } in
      let did = c.in-Ok.ensures in
      let took = ended g.S.SwapSlot.content g.S.SwapSlot.honest c.args.hart c.args.outcome inside c.args.self.now c.args.memory.now c.finish_on.new.memory c.index_mut-regs.result.now c.in-Ok.stepped c.finish_on.new.regs c.finish_on.new.env
      c.self.view_is c.self.invariant.whole c.requires.may c.index_mut-regs.ensures.value left did.rest did.leaves did.kept in
      let same = taken_as g.S.SwapSlot.content g.S.SwapSlot.honest c.args.hart c.in-Ok.stepped inside c.finish_on.new.regs c.finish_on.new.env c.settle.new.harts.items c.settle.new.end c.pc-pc.result c.settle.ensures.harts c.settle.ensures.end c.pc-pc.ensures in
      ends_as g.S.SwapSlot.content g.S.SwapSlot.honest c.args.hart c.in-Ok.stepped c.of_step-progress.result c.args.self.now left.before _ _ c.finish_on.new.memory same c.of_step-progress.ensures took.taken.ends;
}

pub returns-in-Err : goal.returns-in-Err
returns-in-Err g c = record {
  ends = λ left.
      let inside : RunningValue = record { harts = c.self.inside.harts.items; environment = c.self.inside.env; ending = c.self.inside.end } in
      let did = c.in-Err.ensures in
      not_ended g.S.SwapSlot.content g.S.SwapSlot.honest c.args.hart c.args.outcome inside c.args.self.now c.args.memory.now c.finish_on.new.memory c.index_mut-regs.result.now c.in-Err.stop c.finish_on.new.regs c.finish_on.new.env
      c.self.view_is c.self.invariant.whole c.requires.may c.index_mut-regs.ensures.value left did.rest did.leaves did.kept;
}
