-- What the runs of a program by schedules come to.
use Rattle.std.specs.Prelude.{◌≡◌, ℕ, ◌≤◌, ◌⊎◌, ⊤, List, [], ◌∷◌, length, Option, option_map}
use Rattle.elf_image.specs.Image.{ImageContent}
use Rattle.image_files.specs.Reading.{HoldsImage}
use Rattle.image_files.specs.WholeBytes.{AreWhole}
use Rattle.run_records.specs.Prints.{print_of}
use Rattle.run_records.specs.Records.{RecordValue}
use Rattle.run_records.specs.declared.fingerprint.Fingerprint.{Fingerprint}
use Rattle.run_records.specs.declared.record.Closing.{Closing}
use Rattle.record_commands.specs.Rows.{GoesOn, IsLike, Tallies}
use Rattle.record_commands.specs.Saved.{AreSaved, IsRunOf}
use Rattle.record_commands.specs.declared.request.ExploreRequest.{ExploreRequest}
use Rattle.record_commands.specs.declared.row.Row.{Row}

-- some flat run of an image on an input, of no more steps than are allowed, came to this
pub record CameTo (image : ImageContent) (input : List ℕ) (file : Fingerprint) (limit : ℕ) (closing : Closing) : Type 0 where
  pub told : RecordValue
  pub closing_is : told.closing ≡ closing
  pub run : IsRunOf image input file limit told

-- each of these is what a run came to
unfoldable pub AllCame : ImageContent → List ℕ → Fingerprint → ℕ → List Closing → Type 0
AllCame image input file limit [] = ⊤
AllCame image input file limit (closing ∷ earlier) = CameTo image input file limit closing × AllCame image input file limit earlier

-- each row is like some run
unfoldable pub AllRowsCame : ImageContent → List ℕ → Fingerprint → ℕ → List Row → Type 0
AllRowsCame image input file limit [] = ⊤
AllRowsCame image input file limit (row ∷ rows) = ((closing : Closing) × (CameTo image input file limit closing × IsLike closing row)) × AllRowsCame image input file limit rows

-- Rows count so many runs, from a seed on. The runs are fewer if as many rows came as are wanted. Each row is saved. `takes` relates a name
-- to the bytes of which a file of this name was made.
pub record IsExplored (takes : List ℕ → List ℕ → Type 0) (request : ExploreRequest) (image : ImageContent) (input : List ℕ) (file : Fingerprint) (rows : List Row) : Type 0 where
  pub closings : List Closing
  pub came : AllCame image input file request.limit closings
  pub tallied : Tallies request.until request.seed closings rows
  pub within : length closings ≤ request.runs
  pub over : (length closings ≡ request.runs) ⊎ (¬ GoesOn request.until rows)
  pub saved : AreSaved takes image input file request.limit (option_map (λ s. s.now) request.folder) rows

-- rows count the runs of the named image on the whole input; `gives` relates a name to the bytes that its file may be found to hold
pub record Explores (gives takes : List ℕ → List ℕ → Type 0) (request : ExploreRequest) (known : Option (List ℕ)) (rows : List Row) : Type 0 where
  pub file : List ℕ
  pub file_given : gives request.image.now file
  pub image : ImageContent
  pub holds : HoldsImage file image
  pub input : List ℕ
  pub input_whole : AreWhole known input
  pub explored : IsExplored takes request image input (print_of file) rows
