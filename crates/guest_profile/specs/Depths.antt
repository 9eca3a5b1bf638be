-- How deep in calls harts are.
use Rattle.std.specs.Prelude.{List, map, replicate}
use Rattle.guest_steps.specs.declared.flow.Flow.{Flow}
use Rattle.guest_steps.specs.declared.told_step.ToldStep.{ToldStep}
use Rattle.guest_profile.specs.Accounts.{step_jump}
use Rattle.guest_profile.specs.Calls.{HartCalls, followed, hart_calls, no_calls}
use Rattle.guest_profile.specs.Sums.{nothing}
use Rattle.guest_profile.specs.declared.depths.Depths.{Depths}

abbrev pub harts_of : Depths → List HartCalls
harts_of depths = map hart_calls depths.stacks.items

abbrev pub no_harts : List HartCalls
no_harts = replicate 8 no_calls

abbrev pub depths_after : Flow → ToldStep → List HartCalls → List HartCalls
depths_after flow told harts = followed told.hart flow (step_jump nothing told) harts
