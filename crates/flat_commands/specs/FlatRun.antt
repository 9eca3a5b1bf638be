-- What the command that runs an image on flat memory does with its request. `gives` relates a name to the bytes that a file of that name
-- may be found to hold; `old` and `new` are the contents of the output before and after.
use Rattle.std.specs.Prelude.{◌≡◌, ℕ, ◌≤◌, ◌<◌, List, Option, Some, IsSome, option_map}
use Rattle.std.specs.Io.KnownBytes.{Appends}
use Rattle.command_line.specs.declared.request.FlatRequest.{FlatRequest}
use Rattle.elf_image.specs.Image.{ImageContent}
use Rattle.flat_machine.specs.ByTurns.{by_turns, first_turn}
use Rattle.flat_machine.specs.Process.{Process, opening}
use Rattle.image_files.specs.Reading.{GivesImage, GivesInput}
use Rattle.process_text.specs.ExitStatus.{exit_status, ending_of}
use Rattle.process_text.specs.ProcessText.{process_text}

-- A process ran, its harts by turns, until it had ended or as many instructions had run as it may. Its output, its ending and the number of its
-- steps are written, and the status is that of its ending.
pub record RunsToEnd (limit : ℕ) (process : Process) (old new : Option (List ℕ)) (status : ℕ) : Type 0 where
  pub steps : ℕ
  pub flat : Process
  pub ran : (turn : ℕ) × (by_turns steps (first_turn process) process ≡ Some (turn, flat))
  pub within : steps ≤ limit
  pub ended : steps < limit → IsSome flat.ending
  pub written : Appends old new (process_text 0 flat.environment.output (ending_of flat.ending) steps)
  pub status_is : status ≡ exit_status (ending_of flat.ending)

module _ (gives : List ℕ → List ℕ → Type 0) where
  -- the process of the image and of the input that were asked for; where no file is named for it, the input is empty
  pub record IsOpened (request : FlatRequest) (process : Process) : Type 0 where
    pub image : ImageContent
    pub input : List ℕ
    pub image_given : GivesImage gives request.image.now image
    pub input_given : GivesInput gives (option_map (λ s. s.now) request.input) input
    pub opens : process ≡ opening image input

  -- that process ran, for as many instructions as were asked for
  abbrev pub FlatAsAsked : FlatRequest → Option (List ℕ) → Option (List ℕ) → ℕ → Type 0
  FlatAsAsked request old new status = (process : Process) × (IsOpened request process × RunsToEnd request.limit process old new status)
