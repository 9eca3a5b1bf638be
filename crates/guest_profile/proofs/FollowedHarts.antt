-- One of several harts does a step.
use Rattle.std.proofs.Common.{◌≡◌, ℕ, ◌<◌, ◌≤◌, List, length, get_or, set, map, slice_get, Some, None, sym, ap, ◌∙◌, arith}
use Rattle.std.specs.Option.{option_map}
use Rattle.std.proofs.lemmas.List.{map-set, length-map}
use Rattle.std.proofs.Math.ListN.{get_or-map}
use Rattle.std.proofs.lemmas.Option.{slice_get-map, slice_get-get_or, slice_get_past}
use Rattle.guest_steps.specs.declared.flow.Flow.{Flow}
use Rattle.guest_profile.specs.declared.call_site.Jump.{Jump}
use Rattle.guest_profile.specs.declared.call_stack.CallStack.{CallStack}
use Rattle.guest_profile.specs.Calls.{followed, with_hart, hart_after, hart_calls}

pub hart_at : (stacks : List CallStack) (place : ℕ) (stack : CallStack) → stack ≡ get_or stacks place stack → hart_calls stack ≡ get_or (map hart_calls stacks) place (hart_calls stack)
hart_at stacks place stack at = ap hart_calls at ∙ sym (get_or-map hart_calls stacks place stack)

-- the hart's calls, where there is such a hart
pub hart_there : (stacks : List CallStack) (hart : ℕ) (old : CallStack) → hart < length stacks → old ≡ get_or stacks hart old → slice_get (map hart_calls stacks) hart ≡ Some (hart_calls old)
hart_there stacks hart old within at =
    slice_get-map hart_calls stacks hart
    ∙ ap (option_map hart_calls) (slice_get-get_or stacks hart old within ∙ ap (λ s. Some s) (sym at))

pub no_hart : (stacks : List CallStack) (hart : ℕ) → length stacks ≤ hart → slice_get (map hart_calls stacks) hart ≡ None
no_hart stacks hart past = slice_get_past (map hart_calls stacks) hart (omega (arith, length-map stacks hart_calls))

-- its calls after the step, and those of the others
pub harts_followed : (stacks : List CallStack) (hart : ℕ) (flow : Flow) (jump : Jump) (old new : CallStack) → hart < length stacks → old ≡ get_or stacks hart old → hart_calls new ≡ hart_after flow jump (hart_calls old)
    → map hart_calls (set stacks hart new) ≡ followed hart flow jump (map hart_calls stacks)
harts_followed stacks hart flow jump old new within at after =
    map-set hart_calls stacks hart new
    ∙ ap (set (map hart_calls stacks) hart) after
    ∙ ap (λ o. with_hart hart o flow jump (map hart_calls stacks)) (sym (hart_there stacks hart old within at))

-- the calls of a hart, by its number
pub hart_found : (stacks : List CallStack) (hart : ℕ) → slice_get (map hart_calls stacks) hart ≡ option_map hart_calls (slice_get stacks hart)
hart_found stacks hart = slice_get-map hart_calls stacks hart
