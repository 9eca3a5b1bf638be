-- What a profile counts of a string of steps.
use Rattle.std.specs.Prelude.{◌≡◌, ℕ, List, [], ◌∷◌, Option, Some, None}
use Rattle.elf_image.specs.Image.{ImageContent}
use Rattle.flat_machine.specs.Refusals.{WantsMemory}
use Rattle.flat_machine.specs.declared.end.End.{End}
use Rattle.flat_machine.specs.declared.end.End.TheVariants.{Killed}
use Rattle.flat_machine.specs.declared.end.KillCause.TheVariants.{Limit, NoMemory}
use Rattle.image_files.specs.Reading.{GivesImage}
use Rattle.guest_steps.specs.StepsToCome.{Moves}
use Rattle.guest_steps.specs.declared.step_string.StepString.{StepString}
use Rattle.guest_steps.specs.declared.told_step.ToldStep.{ToldStep}
use Rattle.guest_profile.specs.Accounts.{Account, IsAccount, after_all, closed, nothing}
use Rattle.guest_profile.specs.declared.profile.Profile.{Profile}
use Rattle.image_files.specs.WholeBytes.{AreWhole}
use Rattle.guest_cli.specs.BegunSteps.{IsBegun}
use Rattle.guest_io.specs.GuestStatus.{guest_status}

-- these steps are given one after another
unfoldable pub TellsAll : List ToldStep → StepString → StepString → Type 0
TellsAll [] old new = new ≡ old
TellsAll (told ∷ later) old new = (between : StepString) × (Moves told old between × TellsAll later between new)

-- why no more steps are given: the process's own ending, or as many steps done as are allowed, or not enough memory for the next one
pub data StopsSo (steps : StepString) : End → Type 0 where
  Itself : (end : End) → steps.process.ending ≡ Some end → StopsSo steps end
  Limited : steps.process.ending ≡ None → steps.done ≡ steps.limit → StopsSo steps (Killed Limit)
  Wanting : WantsMemory steps.turn steps.process → StopsSo steps (Killed NoMemory)

-- all steps to come are given, up to this ending, and a profile counts them
pub record CountsAll (old new : StepString) (before counted : Profile) (end : End) : Type 0 where
  pub steps : List ToldStep
  pub told : TellsAll steps old new
  pub over : StopsSo new end
  pub counts : (account : Account) → IsAccount before account → IsAccount counted (after_all steps account)

-- all steps of a string are given, up to this ending, and a profile is the account of them
pub record CountsBegun (begun : StepString) (profile : Profile) (end : End) (done : ℕ) : Type 0 where
  pub steps : List ToldStep
  pub last : StepString
  pub told : TellsAll steps begun last
  pub over : StopsSo last end
  pub many : done ≡ last.done
  pub counts : IsAccount profile (closed (after_all steps nothing))

-- `gives` relates a name to the bytes that a file of this name may be found to hold
module _ (gives : List ℕ → List ℕ → Type 0) where
  -- this status is that of the ending of the named image's program on the whole input, whose steps a profile counted
  pub record AnswersProfile (name : List ℕ) (limit : ℕ) (known : Option (List ℕ)) (status : ℕ) : Type 0 where
    pub image : ImageContent
    pub image_given : GivesImage gives name image
    pub input : List ℕ
    pub input_whole : AreWhole known input
    pub begun : StepString
    pub is_begun : IsBegun image input limit begun
    pub profile : Profile
    pub end : End
    pub done : ℕ
    pub counted : CountsBegun begun profile end done
    pub status_is : status ≡ guest_status end
