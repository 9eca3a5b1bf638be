-- Which steps of a string have a line in a trace.
use Rattle.std.specs.Prelude.{◌≡◌, ℕ, ◌+◌, ◌-◌, ◌^◌, ◌≤◌, ◌==◌, nat_le, Bool, true, false, not, ◌&&◌, ◌||◌, ◌⊎◌, List, [], ◌∷◌, Option, Some, None, IsSome, Result, Ok, Err, slice_get}
use Rattle.page_memory.specs.declared.fault.MemoryFault.{MemoryFault}
use Rattle.rv_isa.specs.declared.instruction.Insn.{Insn}
use Rattle.rv_isa.specs.Table.{insn_of}
use Rattle.elf_image.specs.Image.{ImageContent}
use Rattle.image_files.specs.Reading.{GivesImage}
use Rattle.image_files.specs.WholeBytes.{AreWhole}
use Rattle.guest_steps.specs.Flows.{flow_of}
use Rattle.guest_steps.specs.declared.flow.Flow.{Flow}
use Rattle.guest_steps.specs.declared.flow.Flow.TheVariants.{Call, Return, Branch, Other}
use Rattle.guest_steps.specs.declared.step_string.StepString.{StepString}
use Rattle.guest_steps.specs.declared.told_step.ToldStep.{ToldStep}
use Rattle.guest_profile.specs.Calls.{HartCalls, hart_depth}
use Rattle.guest_cli.specs.BegunSteps.{IsBegun}
use Rattle.guest_cli.specs.CountedRuns.{TellsAll}
use Rattle.guest_cli.specs.declared.request.TraceRequest.{TraceRequest}

-- what a step is for the flow of the program
abbrev pub insn_flow : Option Insn → Flow
insn_flow None = Other
insn_flow (Some insn) = flow_of insn

abbrev pub step_flow : Result ℕ MemoryFault → Flow
step_flow (Err fault) = Other
step_flow (Ok word) = insn_flow (insn_of word)

-- the depth of a step of a hart, by the calls of all harts before and after it: a call has the depth of its caller
abbrev pub flow_depth : Flow → ℕ → List HartCalls → List HartCalls → ℕ
flow_depth Call hart old new = hart_depth (slice_get old hart)
flow_depth Return hart old new = hart_depth (slice_get new hart)
flow_depth Branch hart old new = hart_depth (slice_get new hart)
flow_depth Other hart old new = hart_depth (slice_get new hart)

-- a call or a return
abbrev pub is_of_function : Flow → Bool
is_of_function Call = true
is_of_function Return = true
is_of_function Branch = false
is_of_function Other = false

abbrev pub is_of_hart : Option ℕ → ℕ → Bool
is_of_hart None hart = true
is_of_hart (Some number) hart = number == hart

-- the step of this number is asked for: it is not before the first one, it is of the hart that is named, where one is, and it calls or returns,
-- where only such steps are asked for
abbrev pub is_asked : TraceRequest → ℕ → ToldStep → Bool
is_asked request number told =
    nat_le request.from number && (is_of_hart request.hart told.hart && (not request.is_of_functions || is_of_function (step_flow told.word)))

-- a step that is asked for has a line
abbrev pub lines_for : Bool → ℕ
lines_for true = 1
lines_for false = 0

-- how many lines some steps have, of which the first has this number
unfoldable pub asked : TraceRequest → ℕ → List ToldStep → ℕ
asked request number [] = 0
asked request number (told ∷ later) = lines_for (is_asked request number told) + asked request (number + 1) later

-- the steps to come were given, up to the last line that is requested, or all of them
pub record Traces (request : TraceRequest) (old new : StepString) : Type 0 where
  pub steps : List ToldStep
  pub told : TellsAll steps old new
  pub few : asked request (old.done + 1) steps ≤ request.count
  pub over : (asked request (old.done + 1) steps ≡ request.count) ⊎ ((new.done ≡ new.limit) ⊎ IsSome new.process.ending)

-- `gives` relates a name to the bytes that a file of this name may be found to hold
module _ (gives : List ℕ → List ℕ → Type 0) where
  -- the steps that were given are those of the named image's program on the whole input, from its first one on
  pub record AnswersTrace (request : TraceRequest) (known : Option (List ℕ)) : Type 0 where
    pub image : ImageContent
    pub image_given : GivesImage gives request.image.now image
    pub input : List ℕ
    pub input_whole : AreWhole known input
    pub begun : StepString
    pub is_begun : IsBegun image input (2 ^ 64 - 1) begun
    pub last : StepString
    pub traced : Traces request begun last
