use Rattle.std.proofs.Common.{ap, ◌∙◌}
use Rattle.flat_machine.specs.Process.{may_step}
use Rattle.paged_memory.specs.Paged.{memory_of}
use Rattle.space_core.specs.RunningValue.{RunningValue, with_memory}
use Rattle.space_core.specs.Slicing.{shown_process}
use Rattle.space_core.specs.StandsFor.{SpaceValue}
use Rattle.space_core.proofs.space.Space.may_step.Goals as goal

pub returns : goal.returns
returns g c =
    let memory = memory_of g.S.SwapSlot.content c.self.inside.memory in
    c.may_step.ensures memory ∙ ap (λ (r : RunningValue). may_step c.args.hart (with_memory r memory)) c.running.ensures
    ∙ ap (λ (s : SpaceValue g.row.S.Denot). may_step c.args.hart (shown_process g.S.SwapSlot.content s)) c.self.view_is
