-- What `guest run` answers.
use Rattle.std.specs.Prelude.{◌≡◌, ℕ, List, Option, None, Some}
use Rattle.elf_image.specs.Image.{ImageContent}
use Rattle.elf_image.specs.Start.{Start, start_of}
use Rattle.flat_machine.specs.Process.{Process, opening}
use Rattle.flat_machine.specs.declared.end.End.{End}
use Rattle.image_files.specs.Reading.{GivesImage}
use Rattle.guest_io.specs.GuestStatus.{guest_status}
use Rattle.image_files.specs.WholeBytes.{AreWhole}
use Rattle.guest_cli.specs.FlatRuns.{TellsFlatRun}
use Rattle.guest_cli.specs.TurnRuns.{TellsTurns}

-- `runs` says how a program may end on a machine of so many frames, up to so many steps: the ending, and after how many steps
module _ (runs : ℕ → ℕ → Start → End → ℕ → Type 0) where
  -- A program ended so after so many steps, with what was written. On flat memory it did so after a run by turns, up to a limit. On frames
  -- the flat machine ends so by some order of harts, up to the same limit, and the program may end so on a machine of so many frames.
  abbrev pub TellsRun : Option ℕ → ℕ → Start → Option (List ℕ) → Option (List ℕ) → End → ℕ → Type 0
  TellsRun None limit start old new end steps = (process : Process) × TellsTurns limit (opening start.image start.input) process old new end steps
  TellsRun (Some frames) limit start old new end steps = TellsFlatRun limit start old new end steps × runs frames limit start end steps

-- `gives` relates a name to the bytes that a file of this name may be found to hold
module _ (gives : List ℕ → List ℕ → Type 0) (runs : ℕ → ℕ → Start → End → ℕ → Type 0) where
  -- this status is that of the ending of the named image's program on the whole input
  pub record AnswersRun (name : List ℕ) (frames : Option ℕ) (limit : ℕ) (known old new : Option (List ℕ)) (status : ℕ) : Type 0 where
    pub image : ImageContent
    pub image_given : GivesImage gives name image
    pub input : List ℕ
    pub input_whole : AreWhole known input
    pub end : End
    pub steps : ℕ
    pub ran : TellsRun runs frames limit (start_of image input) old new end steps
    pub status_is : status ≡ guest_status end
