-- The laws of a plain run, for the process that is seen.
use Rattle.std.proofs.Common.{◌≡◌, ◌-◌, true, replicate, arith, ap, sym, ◌∙◌, length-set}
use Rattle.std.specs.Arc.{arc_value}
use Rattle.flat_machine.specs.Process.{Process, may_step, flat_step, flat_run}
use Rattle.flat_machine.specs.ByTurns.{by_turns, turn_after}
use Rattle.decoded_pages.proofs.Runs.{all_shown_on}
use Rattle.flat_machine.proofs.PlainCode.{plain_keeps}
use Rattle.flat_machine.proofs.PlainSteps.{taken_plainly, none_plainly, one_plainly, run_plainly, stops_next}
use Rattle.flat_machine.proofs.process.FlatProcess.step_plainly.Goals as goal

pub returns-clause-none : goal.returns-clause-none
returns-clause-none c = λ zero_steps.
    let process : Process = record { harts = c.self.inside.harts.items; environment = c.self.inside.env; memory = c.self.inside.memory; ending = c.self.inside.end } in
    none_plainly (c.args.most - c.run_plainly-halt.result.left) c.args.hart process c.index_mut-regs.result.now c.run_plainly-halt.new.regs c.run_plainly-halt.new.memory zero_steps c.index_mut-regs.ensures.value c.run_plainly-halt.ensures.ran
    ∙ c.self.view_is

pub returns-clause-one : goal.returns-clause-one
returns-clause-one c = λ one.
    let process : Process = record { harts = c.self.inside.harts.items; environment = c.self.inside.env; memory = c.self.inside.memory; ending = c.self.inside.end } in
    let here : may_step c.args.hart process ≡ true = ap (may_step c.args.hart) c.self.view_is ∙ c.requires in
    ap (flat_step c.args.hart) (sym c.self.view_is)
    ∙ one_plainly (c.args.most - c.run_plainly-halt.result.left) c.args.hart process c.index_mut-regs.result.now c.run_plainly-halt.new.regs c.run_plainly-halt.new.memory one c.self.invariant.whole here c.index_mut-regs.ensures.value c.run_plainly-halt.ensures.ran

pub returns-clause-alone : goal.returns-clause-alone
returns-clause-alone c = λ alone.
    let process : Process = record { harts = c.self.inside.harts.items; environment = c.self.inside.env; memory = c.self.inside.memory; ending = c.self.inside.end } in
    let here : may_step c.args.hart process ≡ true = ap (may_step c.args.hart) c.self.view_is ∙ c.requires in
    let alone_here : turn_after c.args.hart process ≡ c.args.hart = ap (turn_after c.args.hart) c.self.view_is ∙ alone in
    ap (by_turns (c.args.most - c.run_plainly-halt.result.left) c.args.hart) (sym c.self.view_is)
    ∙ (taken_plainly (c.args.most - c.run_plainly-halt.result.left) c.args.hart process c.index_mut-regs.result.now c.run_plainly-halt.new.regs c.run_plainly-halt.new.memory c.self.invariant.whole here alone_here c.index_mut-regs.ensures.value c.run_plainly-halt.ensures.ran).ran

pub returns-clause-ran : goal.returns-clause-ran
returns-clause-ran c =
    let process : Process = record { harts = c.self.inside.harts.items; environment = c.self.inside.env; memory = c.self.inside.memory; ending = c.self.inside.end } in
    let here : may_step c.args.hart process ≡ true = ap (may_step c.args.hart) c.self.view_is ∙ c.requires in
    ap (flat_run (replicate (c.args.most - c.run_plainly-halt.result.left) c.args.hart)) (sym c.self.view_is)
    ∙ run_plainly (c.args.most - c.run_plainly-halt.result.left) c.args.hart process c.index_mut-regs.result.now c.run_plainly-halt.new.regs c.run_plainly-halt.new.memory c.self.invariant.whole here c.index_mut-regs.ensures.value c.run_plainly-halt.ensures.ran

pub returns-clause-stopped : goal.returns-clause-stopped
returns-clause-stopped c = λ fewer.
    let process : Process = record { harts = c.self.inside.harts.items; environment = c.self.inside.env; memory = c.self.inside.memory; ending = c.self.inside.end } in
    let here : may_step c.args.hart process ≡ true = ap (may_step c.args.hart) c.self.view_is ∙ c.requires in
    stops_next c.args.hart process c.run_plainly-halt.new.regs c.run_plainly-halt.new.memory c.run_plainly-halt.result.last c.self.invariant.whole here (c.run_plainly-halt.ensures.stopped (omega arith))

-- no hart came or went, and pages that may not be written are as they were
pub invariant_of-self : goal.invariant_of-self
invariant_of-self c =
    let run = c.run_plainly-halt in
    let before = c.self.invariant.whole in
    record {
      whole = record {
        marked = length-set c.self.inside.harts.items c.args.hart run.new.regs ∙ before.marked;
        few = before.few;
        some = before.some;
      };
      roomy = c.self.invariant.roomy;
      shows = all_shown_on (arc_value c.self.inside.decoded) c.self.inside.memory run.new.memory
          (plain_keeps c.args.hart (c.args.most - run.result.left) c.index_mut-regs.result.now c.self.inside.memory run.new.regs run.new.memory run.ensures.ran) c.self.invariant.shows;
    }
