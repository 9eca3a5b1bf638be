-- What is left of a step that calls or traps is the whole step.
use Rattle.std.proofs.Common.{sym, subst, IfOk}
use Rattle.env_calls.specs.Effect.{Effect}
use Rattle.env_calls.specs.Serving.{TakesMemory}
use Rattle.env_calls.specs.Stepping.{IsEffect}
use Rattle.flat_machine.proofs.PlainSteps.{rest_is_whole, rest_wants}
use Rattle.flat_machine.proofs.stepping.finish_step.Goals as goal

pub returns-clause-stepped : goal.returns-clause-stepped
returns-clause-stepped c =
    let same = rest_is_whole c.args.outcome c.args.hart c.args.regs.now c.args.env.now c.args.memory.now c.requires.stops in
    subst (λ (e : Effect). IfOk c.finish.result (λ stepped. IsEffect e stepped c.finish.new.regs c.finish.new.env c.finish.new.bus)) (sym same) c.finish.ensures.stepped

pub returns-clause-stop : goal.returns-clause-stop
returns-clause-stop c = rest_wants c.args.outcome c.args.hart c.args.regs.now c.args.memory.now c.finish.result c.requires.stops c.finish.ensures.pages

pub returns-clause-no_memory : goal.returns-clause-no_memory
returns-clause-no_memory c = λ none.
    let same = rest_is_whole c.args.outcome c.args.hart c.args.regs.now c.args.env.now c.args.memory.now c.requires.stops in
    subst (TakesMemory c.args.env.now) (sym same) (c.finish.ensures.no_memory none)
