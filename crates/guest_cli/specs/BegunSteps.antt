-- What a trace and a profile begin with.
use Rattle.std.specs.Prelude.{◌≡◌, ℕ, List, Option}
use Rattle.elf_image.specs.Image.{ImageContent}
use Rattle.flat_machine.specs.ByTurns.{first_turn}
use Rattle.flat_machine.specs.Process.{opening}
use Rattle.image_files.specs.Reading.{GivesImage}
use Rattle.image_files.specs.WholeBytes.{AreWhole}
use Rattle.guest_steps.specs.declared.step_string.StepString.{StepString}

-- no step is done yet of a process that begins with this image and this input; so many may be
pub record IsBegun (image : ImageContent) (input : List ℕ) (limit : ℕ) (steps : StepString) : Type 0 where
  pub process : steps.process ≡ opening image input
  pub turn : steps.turn ≡ first_turn (opening image input)
  pub most : steps.limit ≡ limit
  pub none : steps.done ≡ 0

-- `gives` relates a name to the bytes that a file of this name may be found to hold
module _ (gives : List ℕ → List ℕ → Type 0) where
  -- the steps of the named image's program on the whole input, and the bytes of a file of that name
  pub record BeginsSteps (name : List ℕ) (limit : ℕ) (known : Option (List ℕ)) (steps : StepString) (file : List ℕ) : Type 0 where
    pub image : ImageContent
    pub image_given : GivesImage gives name image
    pub input : List ℕ
    pub input_whole : AreWhole known input
    pub begun : IsBegun image input limit steps
    pub file_given : gives name file
