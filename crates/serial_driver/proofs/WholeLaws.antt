-- A process on flat memory keeps a live hart, whatever its harts run.
use Rattle.std.proofs.Common.{◌≡◌, ℕ, Bool, true, false, List, [], ◌∷◌, Option, Some, None, option_map, refl, subst}
use Rattle.std.specs.Prelude.{option_and_then, if◌then◌else◌}
use Rattle.elf_image.specs.Image.{ImageContent}
use Rattle.rv_exec.specs.Registers.{Registers}
use Rattle.env_calls.proofs.LiveLaws.{marks_after}
use Rattle.env_calls.specs.Step.{effect}
use Rattle.flat_machine.specs.Process.{Process, IsWhole, hart_registers, opening, stepped, may_step, flat_step, flat_run}
use Rattle.flat_machine.proofs.StepLaws.{whole_after, whole_alone}

some_is : {A : Type 0} (x y : A) → Some x ≡ Some y → x ≡ y
some_is x y e = cc

step_leaves : (hart : ℕ) (process left : Process) (may : Bool) (found : Option Registers) → IsWhole process → (if may then option_map (stepped hart process) found else None) ≡ Some left → IsWhole left
step_leaves hart process left false found whole e = cc
step_leaves hart process left true None whole e = cc
step_leaves hart process left true (Some registers) whole e =
    subst IsWhole (some_is (stepped hart process registers) left e)
    (whole_after hart process registers (effect hart registers process.environment process.memory) whole (marks_after hart registers process.environment process.memory))

whole_step : (hart : ℕ) (process left : Process) → IsWhole process → flat_step hart process ≡ Some left → IsWhole left
unfolding flat_step
whole_step hart process left whole e = step_leaves hart process left (may_step hart process) (hart_registers hart process) whole e

whole_run : (harts : List ℕ) (before after : Process) → IsWhole before → flat_run harts before ≡ Some after → IsWhole after
unfolding flat_run
whole_run [] before after whole e = subst IsWhole (some_is before after e) whole
whole_run (hart ∷ harts) before after whole e =
    elim (flat_step hart before) as (λ o. flat_step hart before ≡ o → option_and_then (flat_run harts) o ≡ Some after → IsWhole after) [
      | None ↦ λ step rest. cc
      | Some next ↦ λ step rest. whole_run harts next after (whole_step hart before next whole step) rest
    ] refl e

whole_opening : (image : ImageContent) (input : List ℕ) → IsWhole (opening image input)
unfolding opening
whole_opening image input = whole_alone (opening image input) refl refl

pub whole_from_opening : (image : ImageContent) (input harts : List ℕ) (flat : Process) → flat_run harts (opening image input) ≡ Some flat → IsWhole flat
whole_from_opening image input harts flat e = whole_run harts (opening image input) flat (whole_opening image input) e
