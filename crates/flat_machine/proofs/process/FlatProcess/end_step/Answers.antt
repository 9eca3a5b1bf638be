use Rattle.std.proofs.Common.{◌≡◌, Some, true, arith, ap, sym, ◌∙◌, refl, subst}
use Rattle.std.proofs.lemmas.Option.{slice_get-get_or}
use Rattle.env_calls.specs.Step.{effect}
use Rattle.env_calls.specs.Serving.{TakesMemory}
use Rattle.std.specs.Arc.{arc_value}
use Rattle.flat_machine.specs.Process.{Process, hart_registers, may_step}
use Rattle.flat_machine.proofs.StepLaws.{started}
use Rattle.flat_machine.proofs.SettlingLaws.{room_to_spawn, settled, settled_as, went_alike}
use Rattle.flat_machine.proofs.PlainSteps.{stops_there}
use Rattle.flat_machine.proofs.PlainCode.{effect_keeps, stepped_keeps}
use Rattle.decoded_pages.proofs.Runs.{all_shown_on}
use Rattle.flat_machine.specs.PlainRun.{StopsNext}
use Rattle.flat_machine.proofs.process.FlatProcess.end_step.Goals as goal

pub finish_step-requires : goal.finish_step-requires
finish_step-requires c =
    let process : Process = record { harts = c.self.inside.harts.items; environment = c.self.inside.env; memory = c.self.inside.memory; ending = c.self.inside.end } in
    let here : may_step c.args.hart process ≡ true = ap (may_step c.args.hart) c.self.view_is ∙ c.requires.may in
    let within = started c.args.hart process c.self.invariant.whole here in
    record {
      stops = stops_there c.args.hart process c.index_mut-regs.result.now c.args.outcome (subst (StopsNext c.args.hart c.args.outcome) (sym c.self.view_is) c.requires.stops)
          (slice_get-get_or c.self.inside.harts.items c.args.hart c.index_mut-regs.result.now within ∙ ap Some (sym c.index_mut-regs.ensures.value));
    }

pub settle-requires : goal.settle-requires
settle-requires c =
    let process : Process = record { harts = c.self.inside.harts.items; environment = c.self.inside.env; memory = c.self.inside.memory; ending = c.self.inside.end } in
    record {
      room = room_to_spawn c.args.hart process c.index_mut-regs.result.now c.finish_step.new.regs c.finish_step.new.env c.finish_step.new.memory c.in-Ok.stepped c.self.inside.harts.cap
          c.self.invariant.whole c.in-Ok.ensures.stepped c.self.invariant.roomy;
    }

pub invariant_of-self : goal.invariant_of-self
invariant_of-self c =
    let process : Process = record { harts = c.self.inside.harts.items; environment = c.self.inside.env; memory = c.self.inside.memory; ending = c.self.inside.end } in
    let left = settled_as c.args.hart process c.args.self.now c.index_mut-regs.result.now c.finish_step.new.regs c.finish_step.new.env c.finish_step.new.memory c.in-Ok.stepped
    c.settle.new.harts.items c.settle.new.end c.pc-pc.result c.settle.ensures.harts c.settle.ensures.end c.pc-pc.ensures
    (settled c.args.hart process c.args.self.now c.index_mut-regs.result.now c.finish_step.new.regs c.finish_step.new.env c.finish_step.new.memory c.in-Ok.stepped
    c.self.invariant.whole c.self.view_is c.requires.may c.index_mut-regs.ensures.value c.in-Ok.ensures.stepped c.in-Ok.ensures.regs_stay c.in-Ok.ensures.env_stays c.in-Ok.ensures.memory_stays) in
    record {
      whole = left.whole;
      roomy = (let same = c.settle.ensures.room in let before = c.self.invariant.roomy in omega arith);
      shows = all_shown_on (arc_value c.self.inside.decoded) c.self.inside.memory c.finish_step.new.memory
          (stepped_keeps c.in-Ok.stepped (effect c.args.hart c.index_mut-regs.result.now c.self.inside.env c.self.inside.memory) c.finish_step.new.regs c.finish_step.new.env c.self.inside.memory c.finish_step.new.memory
          (effect_keeps c.args.hart c.index_mut-regs.result.now c.self.inside.env c.self.inside.memory) c.in-Ok.ensures.stepped c.in-Ok.ensures.memory_stays) c.self.invariant.shows;
    }

pub returns-in-Ok-clause-ok : goal.returns-in-Ok-clause-ok
returns-in-Ok-clause-ok c =
    let process : Process = record { harts = c.self.inside.harts.items; environment = c.self.inside.env; memory = c.self.inside.memory; ending = c.self.inside.end } in
    let left = settled_as c.args.hart process c.args.self.now c.index_mut-regs.result.now c.finish_step.new.regs c.finish_step.new.env c.finish_step.new.memory c.in-Ok.stepped
    c.settle.new.harts.items c.settle.new.end c.pc-pc.result c.settle.ensures.harts c.settle.ensures.end c.pc-pc.ensures
    (settled c.args.hart process c.args.self.now c.index_mut-regs.result.now c.finish_step.new.regs c.finish_step.new.env c.finish_step.new.memory c.in-Ok.stepped
    c.self.invariant.whole c.self.view_is c.requires.may c.index_mut-regs.ensures.value c.in-Ok.ensures.stepped c.in-Ok.ensures.regs_stay c.in-Ok.ensures.env_stays c.in-Ok.ensures.memory_stays) in
    left.step

pub returns-in-Ok-clause-same : goal.returns-in-Ok-clause-same
returns-in-Ok-clause-same c = λ same.
    let process : Process = record { harts = c.self.inside.harts.items; environment = c.self.inside.env; memory = c.self.inside.memory; ending = c.self.inside.end } in
    let went = went_alike c.args.hart process c.args.self.now c.index_mut-regs.result.now c.finish_step.new.regs c.finish_step.new.env c.finish_step.new.memory c.in-Ok.stepped c.pc-pc.result
    c.self.view_is c.requires.may c.in-Ok.ensures.stepped (sym c.goes_alike-alike.ensures ∙ same) in
    (c.settle.ensures.end ∙ went.0, went.1)

pub returns-in-Err-NoMemory-clause-wants : goal.returns-in-Err-NoMemory-clause-wants
returns-in-Err-NoMemory-clause-wants c =
    let process : Process = record { harts = c.self.inside.harts.items; environment = c.self.inside.env; memory = c.self.inside.memory; ending = c.self.inside.end } in
    let here : may_step c.args.hart process ≡ true = ap (may_step c.args.hart) c.self.view_is ∙ c.requires.may in
    let within = started c.args.hart process c.self.invariant.whole here in
    record {
      may = c.requires.may;
      registers = c.index_mut-regs.result.now;
      are = ap (hart_registers c.args.hart) (sym c.self.view_is) ∙ slice_get-get_or c.self.inside.harts.items c.args.hart c.index_mut-regs.result.now within ∙ ap Some (sym c.index_mut-regs.ensures.value);
      takes = subst (λ (p : Process). TakesMemory p.environment (effect c.args.hart c.index_mut-regs.result.now p.environment p.memory)) c.self.view_is
          ((rw c.in-Err-NoMemory.field-0-is at c.in-Err-NoMemory.ensures.no_memory) refl);
    }
