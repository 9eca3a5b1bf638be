-- What `guest replay` answers, and why it refuses.
use Rattle.std.specs.Prelude.{◌≡◌, ◌≢◌, ◌⊎◌, ℕ, ⊤, List, [], Option, Ok, Err}
use Rattle.std.specs.Io.KnownBytes.{Appends}
use Rattle.elf_image.specs.Image.{ImageContent}
use Rattle.flat_machine.specs.Process.{Process, opening}
use Rattle.image_files.specs.Faults.{IsUnread}
use Rattle.image_files.specs.Reading.{HoldsImage}
use Rattle.image_files.specs.Refused.{GivesNoImage}
use Rattle.image_files.specs.declared.fault.Fault.TheVariants.{CannotWrite, NoMemory}
use Rattle.guest_io.specs.GuestStatus.{guest_status}
use Rattle.image_files.specs.WholeBytes.{AreWhole}
use Rattle.guest_words.specs.Given.{GivesNoWords, GivesWithWords}
use Rattle.guest_words.specs.declared.fault.WordsFault.{WordsFault}
use Rattle.guest_words.specs.declared.fault.WordsFault.TheVariants as words
use Rattle.run_records.specs.Prints.{print_of}
use Rattle.run_records.specs.Records.{RecordValue, record_of}
use Rattle.run_records.specs.Replaying.{Replays, StopsReplay}
use Rattle.run_records.specs.declared.fingerprint.Fingerprint.{Fingerprint}
use Rattle.record_commands.specs.declared.fault.RecordsFault.{RecordsFault}
use Rattle.record_commands.specs.declared.fault.RecordsFault.TheVariants.{Fault, Words, NoRecord, OtherImage, OtherInput, NoReplay}

-- why a file with words is not had
abbrev pub words_fault : WordsFault → RecordsFault
words_fault (words.Fault why) = Fault why
words_fault (words.NoObject named) = Words (words.NoObject named)
words_fault (words.TooLong named need room) = Words (words.TooLong named need room)

-- ---- the input

-- all bytes of an input, which are those of a fingerprint
pub record IsInputOf (print : Fingerprint) (known : Option (List ℕ)) (input : List ℕ) : Type 0 where
  pub whole : AreWhole known input
  pub same : print_of input ≡ print

-- other bytes; or they can't be read
abbrev pub IsNoInputOf : Fingerprint → Option (List ℕ) → RecordsFault → Type 0
IsNoInputOf print known (Fault why) = ⊤
IsNoInputOf print known OtherInput = (input : List ℕ) × (AreWhole known input × (print_of input ≢ print))
IsNoInputOf print known _ = ⊥

-- ---- files: `gives` relates a name to the bytes that its file may be found to hold, `withholds` holds if the file may be found unreadable
module _ (gives : List ℕ → List ℕ → Type 0) where
  -- the record that such bytes are
  pub record GivesRecord (name : List ℕ) (told : RecordValue) : Type 0 where
    pub text : List ℕ
    pub given : gives name text
    pub is : record_of text ≡ Ok told

  -- the image that such bytes of a fingerprint hold
  pub record GivesImageOf (name : List ℕ) (print : Fingerprint) (image : ImageContent) : Type 0 where
    pub file : List ℕ
    pub given : gives name file
    pub same : print_of file ≡ print
    pub holds : HoldsImage file image

-- The record of a file replays on the image of a file with words and the whole input, which are those that it names. What was written is the output
-- of its flat run, the status that of its ending.
pub record AnswersReplay (gives : List ℕ → List ℕ → Type 0) (name image_name : List ℕ) (words : List (List ℕ)) (known old new : Option (List ℕ)) (status : ℕ) : Type 0 where
  pub told : RecordValue
  pub told_given : GivesRecord gives name told
  pub image : ImageContent
  pub image_given : GivesImageOf (GivesWithWords gives words) image_name told.image image
  pub input : List ℕ
  pub input_given : IsInputOf told.input known input
  pub after : Process
  pub replays : Replays told (opening image input) after
  pub written : Appends old new after.environment.output
  pub status_is : status ≡ guest_status told.closing.end

module _ (gives : List ℕ → List ℕ → Type 0) (withholds : List ℕ → Type 0) where
  -- a file is no record, or can't be read
  abbrev pub IsNoRecord : List ℕ → RecordsFault → Type 0
  IsNoRecord name (Fault why) = IsUnread withholds name why
  IsNoRecord name (NoRecord named why) = (named.now ≡ name) × ((text : List ℕ) × (gives name text × (record_of text ≡ Err why)))
  IsNoRecord name _ = ⊥

  -- a file with words is not that of a fingerprint, or no image; or it can't be read, or takes no such words
  abbrev pub IsNoImageOf : List (List ℕ) → List ℕ → Fingerprint → RecordsFault → Type 0
  IsNoImageOf given name print (Fault why) = GivesNoImage (GivesWithWords gives given) withholds name why
  IsNoImageOf given name print (Words why) = GivesNoWords gives withholds given name why
  IsNoImageOf given name print (OtherImage named) = (named.now ≡ name) × ((file : List ℕ) × (GivesWithWords gives given name file × (print_of file ≢ print)))
  IsNoImageOf given name print _ = ⊥

  -- the record of a file does not replay, or there is not enough memory
  abbrev pub FailsReplay : List ℕ → RecordValue → Process → RecordsFault → Type 0
  FailsReplay name told before (Fault why) = why ≡ NoMemory
  FailsReplay name told before (NoReplay named why) = (named.now ≡ name) × ((after : Process) × StopsReplay why told before after)
  FailsReplay name told before _ = ⊥

  -- why the image and the input of a record don't replay it, in the order of the tests
  abbrev pub RefusesProcess : List ℕ → List ℕ → List (List ℕ) → Option (List ℕ) → RecordValue → RecordsFault → Type 0
  RefusesProcess name image_name given known told why =
      IsNoImageOf given image_name told.image why
      ⊎ ((image : ImageContent) × (GivesImageOf (GivesWithWords gives given) image_name told.image image
      × (IsNoInputOf told.input known why ⊎ ((input : List ℕ) × (IsInputOf told.input known input × FailsReplay name told (opening image input) why)))))

  -- why a replay is refused, in the order of the tests
  abbrev pub RefusesReplay : List ℕ → List ℕ → List (List ℕ) → Option (List ℕ) → RecordsFault → Type 0
  RefusesReplay name image_name given known why =
      IsNoRecord name why
      ⊎ (((told : RecordValue) × (GivesRecord gives name told × RefusesProcess name image_name given known told why)) ⊎ (why ≡ Fault CannotWrite))
