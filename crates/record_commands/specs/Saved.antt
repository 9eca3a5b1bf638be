-- Records of runs that are saved.
use Rattle.std.specs.Prelude.{◌≡◌, ◌≢◌, ◌⊎◌, ℕ, ⊤, List, [], ◌∷◌, ◌++◌, codes, Option, Some, None, Ok}
use Rattle.std.specs.Fmt.{decimal}
use Rattle.elf_image.specs.Image.{ImageContent}
use Rattle.flat_machine.specs.Process.{Process, opening}
use Rattle.flat_machine.specs.Schedule.{IsJoined}
use Rattle.guest_records.specs.GoingOn.{EndsWithin}
use Rattle.run_records.specs.Fitting.{IsRecord}
use Rattle.run_records.specs.Prints.{print_of}
use Rattle.run_records.specs.Records.{RecordValue, record_of, record_text}
use Rattle.run_records.specs.Replaying.{Replays}
use Rattle.run_records.specs.declared.fingerprint.Fingerprint.{Fingerprint}
use Rattle.record_commands.specs.Rows.{IsLike}
use Rattle.record_commands.specs.declared.fault.RecordsFault.{RecordsFault}
use Rattle.record_commands.specs.declared.fault.RecordsFault.TheVariants as fault
use Rattle.record_commands.specs.declared.row.Row.{Row}

-- A record of an image's file and an input replays on them. It is of as many steps as are allowed, or of fewer where the process has ended or the
-- schedule is full.
pub record IsRunOf (image : ImageContent) (input : List ℕ) (file : Fingerprint) (limit : ℕ) (told : RecordValue) : Type 0 where
  pub of_image : told.image ≡ file
  pub of_input : told.input ≡ print_of input
  pub after : Process
  pub replays : Replays told (opening image input) after
  pub stops : EndsWithin limit told after
  pub joined : IsJoined told.turns
  pub fits : IsRecord told

-- the name of the record of the run by a seed in a folder
abbrev pub record_name : List ℕ → ℕ → List ℕ
record_name folder seed = folder ++ codes "/" ++ decimal seed ++ codes ".record"

-- ---- what is not replaced

-- the fault is that the file of this name holds a record of another image, of which P holds
abbrev pub IfOther : (List ℕ → Type 0) → RecordsFault → Type 0
IfOther P (fault.OtherRecord folder seed) = P (record_name folder.now seed)
IfOther P _ = ⊤

-- a file holds a record of another image than this
pub record HoldsOther (gives : List ℕ → List ℕ → Type 0) (name : List ℕ) (image : Fingerprint) : Type 0 where
  pub text : List ℕ
  pub given : gives name text
  pub told : RecordValue
  pub is : record_of text ≡ Ok told
  pub other : told.image ≢ image

-- a file can't be read, or holds no record of another image
abbrev pub SparesOthers : (gives : List ℕ → List ℕ → Type 0) (withholds : List ℕ → Type 0) → List ℕ → Fingerprint → Type 0
SparesOthers gives withholds name image =
    withholds name ⊎ ((text : List ℕ) × (gives name text × ((told : RecordValue) → record_of text ≡ Ok told → told.image ≡ image)))

-- a file was made of the text of a record, and held no record of another image before
abbrev pub Replaces : (gives : List ℕ → List ℕ → Type 0) (withholds : List ℕ → Type 0) (takes : List ℕ → List ℕ → Type 0) → List ℕ → List ℕ → Type 0
Replaces gives withholds takes name text =
    takes name text × ((told : RecordValue) × ((text ≡ record_text told) × SparesOthers gives withholds name told.image))

-- `takes` relates a name to the bytes of which a file of this name was made
module _ (takes : List ℕ → List ℕ → Type 0) where
  -- where a folder is named, a file of it was made of the record of the run by a seed
  abbrev pub SavesIn : Option (List ℕ) → ℕ → RecordValue → Type 0
  SavesIn None seed told = ⊤
  SavesIn (Some folder) seed told = takes (record_name folder seed) (record_text told)

  -- a row has the ending and the output of the flat run by the turns of a record, which is saved by the row's seed
  pub record IsSaved (image : ImageContent) (input : List ℕ) (file : Fingerprint) (limit : ℕ) (folder : Option (List ℕ)) (row : Row) : Type 0 where
    pub told : RecordValue
    pub run : IsRunOf image input file limit told
    pub like : IsLike told.closing row
    pub saved : SavesIn folder row.seed told

  unfoldable pub AreSaved : ImageContent → List ℕ → Fingerprint → ℕ → Option (List ℕ) → List Row → Type 0
  AreSaved image input file limit folder [] = ⊤
  AreSaved image input file limit folder (row ∷ rows) = IsSaved image input file limit folder row × AreSaved image input file limit folder rows

  -- these rows are saved where those were, once a run with this record was counted
  unfoldable pub AreNoted : Option (List ℕ) → RecordValue → List Row → List Row → Type 0
  AreNoted folder told before after =
      (image : ImageContent) (input : List ℕ) (file : Fingerprint) (limit : ℕ) → IsRunOf image input file limit told → AreSaved image input file limit folder before → AreSaved image input file limit folder after
