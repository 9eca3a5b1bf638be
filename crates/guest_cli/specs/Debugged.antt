-- What `guest debug` debugs, and why it refuses.
use Rattle.std.specs.Prelude.{◌≡◌, ◌≢◌, ◌⊎◌, ℕ, List, [], true, false, Option, None, Some, Result, Ok, Err, codes}
use Rattle.elf_image.specs.Image.{ImageContent}
use Rattle.flat_machine.specs.Process.{Process, opening}
use Rattle.debug_session.specs.declared.conversation.SessionFault.{SessionFault}
use Rattle.debug_session.specs.declared.conversation.SessionFault.TheVariants as session
use Rattle.image_files.specs.Reading.{GivesImage, GivesInput}
use Rattle.image_files.specs.Refused.{GivesNoImage, GivesNoInput}
use Rattle.guest_words.specs.Given.{GivesWithWords}
use Rattle.image_files.specs.declared.fault.Fault.{Fault}
use Rattle.image_files.specs.declared.fault.Fault.TheVariants as fault
use Rattle.run_records.specs.Prints.{print_of}
use Rattle.run_records.specs.Records.{RecordValue}
use Rattle.run_records.specs.Replaying.{Replays}
use Rattle.run_records.specs.declared.fingerprint.Fingerprint.{Fingerprint}
use Rattle.record_commands.specs.Replayed.{FailsReplay, GivesImageOf, GivesRecord, IsNoImageOf, IsNoRecord}
use Rattle.record_commands.specs.declared.fault.RecordsFault.{RecordsFault}
use Rattle.run_paths.specs.Paths.{path_of}
use Rattle.run_paths.specs.declared.fault.RunFault.{RunFault}
use Rattle.run_paths.specs.declared.fault.RunFault.TheVariants as run
use Rattle.run_paths.specs.declared.program.Program.{Program}
use Rattle.guest_history.specs.Conversation.{HasConversed}
use Rattle.guest_history.specs.Histories.{Begins, RefusesTurns}
use Rattle.guest_history.specs.declared.fault.HistoryFault.{HistoryFault}
use Rattle.guest_history.specs.declared.fault.HistoryFault.TheVariants as history
use Rattle.guest_history.specs.declared.history.History.{History}
use Rattle.guest_cli.specs.declared.wrong.Wrong.{Wrong}
use Rattle.guest_cli.specs.declared.wrong.Wrong.TheVariants as wrong

-- ---- what is wrong

-- it is a fault of a file, of output or of memory, of which this holds
abbrev pub IsFault : (Fault → Type 0) → Wrong → Type 0
IsFault Of (wrong.Fault why) = Of why
IsFault Of _ = ⊥

-- it is a fault of a record, of which this holds
abbrev pub IsOfRecord : (RecordsFault → Type 0) → Wrong → Type 0
IsOfRecord Of (wrong.Records why) = Of why
IsOfRecord Of _ = ⊥

-- the lines of standard input can't be read
abbrev pub IsUnreadLine : Fault → Type 0
IsUnreadLine (fault.CannotRead named) = named.now ≡ codes "standard input"
IsUnreadLine _ = ⊥

-- a run was not run again, of the image of this name
abbrev pub IsWrongRun : RunFault → List ℕ → Wrong → Type 0
IsWrongRun run.NoMemory image why = IsFault (λ it. it ≡ fault.NoMemory) why
IsWrongRun run.OtherRun image (wrong.OtherRun named) = named.now ≡ image
IsWrongRun run.OtherRun image _ = ⊥

-- a conversation on flat memory was broken off so
abbrev pub IsWrongOf : HistoryFault → List ℕ → Wrong → Type 0
IsWrongOf (history.BadLine number) image why = IsFault (λ it. it ≡ fault.BadLine number) why
IsWrongOf history.CannotRead image why = IsFault IsUnreadLine why
IsWrongOf history.CannotWrite image why = IsFault (λ it. it ≡ fault.CannotWrite) why
IsWrongOf (history.Run refused) image why = IsWrongRun refused image why

-- one on frames was
abbrev pub IsFaultOf : SessionFault → Fault → Type 0
IsFaultOf (session.BadLine number) why = why ≡ fault.BadLine number
IsFaultOf session.NoMemory why = why ≡ fault.NoMemory
IsFaultOf session.CannotRead why = IsUnreadLine why
IsFaultOf session.CannotWrite why = why ≡ fault.CannotWrite

-- what is named where the input is another one: its file, or the option
abbrev pub input_word : Option (List ℕ) → List ℕ
input_word None = codes "--input"
input_word (Some name) = name

-- ---- what is debugged: `gives` relates a name to the bytes that a file of this name may be found to hold
module _ (gives : List ℕ → List ℕ → Type 0) where
  -- the named image's program on the named input, whose harts take turns, before its first step
  pub record BeginsByTurns (name : List ℕ) (input : Option (List ℕ)) (begun : History) : Type 0 where
    pub program : Program
    pub image_given : GivesImage gives name program.image
    pub input_given : GivesInput gives input program.input.items
    pub begins : Begins program [] false begun

  -- an input that is of this fingerprint
  pub record GivesInputOf (input : Option (List ℕ)) (print : Fingerprint) (bytes : List ℕ) : Type 0 where
    pub given : GivesInput gives input bytes
    pub same : print_of bytes ≡ print

  -- the program on the input that a record names, which replays on them: its harts take the record's turns, and no others
  pub record BeginsAsTold (told : RecordValue) (name : List ℕ) (input : Option (List ℕ)) (begun : History) : Type 0 where
    pub program : Program
    pub image_given : GivesImageOf (GivesWithWords gives []) name told.image program.image
    pub input_given : GivesInputOf input told.input program.input.items
    pub after : Process
    pub replays : Replays told (opening program.image program.input.items) after
    pub begins : Begins program (path_of told.turns) true begun

  -- the same of the named record
  abbrev pub BeginsByRecord : List ℕ → List ℕ → Option (List ℕ) → History → Type 0
  BeginsByRecord record_name name input begun =
      (told : RecordValue) × (GivesRecord gives record_name told × BeginsAsTold told name input begun)

  -- by a record, where one is named
  abbrev pub BeginsDebug : Option (List ℕ) → List ℕ → Option (List ℕ) → History → Type 0
  BeginsDebug None name input begun = BeginsByTurns name input begun
  BeginsDebug (Some record_name) name input begun = BeginsByRecord record_name name input begun

  -- Such a debugger answers the lines of `known`, with this result. `old` and `new` are the output before and after.
  pub record DebugsFlat (record_name : Option (List ℕ)) (name : List ℕ) (input known old new : Option (List ℕ))
      (result : Result (Unit {0}) HistoryFault) : Type 0 where
    pub begun : History
    pub begins : BeginsDebug record_name name input begun
    pub after : History
    pub conversed : HasConversed result known begun old after new

-- `debugs` says what a debugger on so many frames answers to lines
module _ (gives : List ℕ → List ℕ → Type 0)
    (debugs : ℕ → ImageContent → List ℕ → Option (List ℕ) → Option (List ℕ) → Option (List ℕ) →
    Result (Unit {0}) SessionFault → Type 0) where
  -- that of the named image's program on the named input
  pub record DebugsOnFrames (frames : ℕ) (name : List ℕ) (input known old new : Option (List ℕ))
      (result : Result (Unit {0}) SessionFault) : Type 0 where
    pub image : ImageContent
    pub image_given : GivesImage gives name image
    pub bytes : List ℕ
    pub input_given : GivesInput gives input bytes
    pub debugged : debugs frames image bytes known old new result

  -- all lines were answered, up to the last one or to `quit`: on so many frames, or on flat memory
  abbrev pub AnswersDebug : Option ℕ → Option (List ℕ) →
      List ℕ → Option (List ℕ) → Option (List ℕ) → Option (List ℕ) → Option (List ℕ) → ℕ → Type 0
  AnswersDebug None record_name name input known old new status =
      DebugsFlat gives record_name name input known old new (Ok tt) × (status ≡ 0)
  AnswersDebug (Some frames) record_name name input known old new status =
      DebugsOnFrames frames name input known old new (Ok tt) × (status ≡ 0)

-- ---- why it is refused: `withholds` holds of a name if a file of this name may be found that can't be read
module _ (gives : List ℕ → List ℕ → Type 0) (withholds : List ℕ → Type 0) where
  -- an input that is not of this fingerprint, or can't be read
  abbrev pub GivesNoInputOf : Option (List ℕ) → Fingerprint → Wrong → Type 0
  GivesNoInputOf input print (wrong.Fault why) = GivesNoInput gives withholds input why
  GivesNoInputOf input print (wrong.OtherInput named) =
      (named.now ≡ input_word input) × ((bytes : List ℕ) × (GivesInput gives input bytes × (print_of bytes ≢ print)))
  GivesNoInputOf input print _ = ⊥

  -- the image, then the input, or there is not enough memory
  abbrev pub RefusesByTurns : List ℕ → Option (List ℕ) → Wrong → Type 0
  RefusesByTurns name input why =
      IsFault (GivesNoImage gives withholds name) why
      ⊎ ((image : ImageContent) × (GivesImage gives name image
      × IsFault (λ it. GivesNoInput gives withholds input it ⊎ (it ≡ fault.NoMemory)) why))

  -- turns that no debugger takes, of a record that replays
  pub record RefusesTurnsOf (told : RecordValue) (name : List ℕ) (before : Process) (why : Wrong) : Type 0 where
    pub after : Process
    pub replays : Replays told before after
    pub refused : RunFault
    pub refuses : RefusesTurns told.turns refused
    pub wrong : IsWrongRun refused name why

  -- the image, then the input, are not those of a record; or it does not replay; or no debugger takes its turns
  abbrev pub RefusesProgramOf : List ℕ → List ℕ → Option (List ℕ) → RecordValue → Wrong → Type 0
  RefusesProgramOf record_name name input told why =
      IsOfRecord (IsNoImageOf gives withholds [] name told.image) why
      ⊎ ((image : ImageContent) × (GivesImageOf (GivesWithWords gives []) name told.image image × (GivesNoInputOf input told.input why
      ⊎ ((bytes : List ℕ) × (GivesInputOf gives input told.input bytes
      × (IsOfRecord (FailsReplay gives withholds record_name told (opening image bytes)) why
      ⊎ RefusesTurnsOf told name (opening image bytes) why))))))

  -- the record first
  abbrev pub RefusesByRecord : List ℕ → List ℕ → Option (List ℕ) → Wrong → Type 0
  RefusesByRecord record_name name input why =
      IsOfRecord (IsNoRecord gives withholds record_name) why
      ⊎ ((told : RecordValue) × (GivesRecord gives record_name told × RefusesProgramOf record_name name input told why))

  abbrev pub RefusesHistory : Option (List ℕ) → List ℕ → Option (List ℕ) → Wrong → Type 0
  RefusesHistory None name input why = RefusesByTurns name input why
  RefusesHistory (Some record_name) name input why = RefusesByRecord record_name name input why

  -- nothing was debugged, and nothing written; or the conversation was broken off, by a bad line or since it could not go on
  abbrev pub RefusesFlat : Option (List ℕ) → List ℕ → Option (List ℕ) → Option (List ℕ) → Option (List ℕ) → Option (List ℕ) → Wrong → Type 0
  RefusesFlat record_name name input known old new why =
      (RefusesHistory record_name name input why × (new ≡ old))
      ⊎ ((broken : HistoryFault) × (DebugsFlat gives record_name name input known old new (Err broken) × IsWrongOf broken name why))

module _ (gives : List ℕ → List ℕ → Type 0) (withholds : List ℕ → Type 0)
    (debugs : ℕ → ImageContent → List ℕ → Option (List ℕ) → Option (List ℕ) → Option (List ℕ) →
    Result (Unit {0}) SessionFault → Type 0) where
  -- the same on so many frames
  abbrev pub RefusesOnFrames : ℕ → List ℕ → Option (List ℕ) → Option (List ℕ) → Option (List ℕ) → Option (List ℕ) → Wrong → Type 0
  RefusesOnFrames frames name input known old new why =
      (RefusesByTurns gives withholds name input why × (new ≡ old))
      ⊎ ((broken : SessionFault) × (DebugsOnFrames gives debugs frames name input known old new (Err broken)
      × IsFault (IsFaultOf broken) why))

  abbrev pub RefusesDebug : Option ℕ → Option (List ℕ) →
      List ℕ → Option (List ℕ) → Option (List ℕ) → Option (List ℕ) → Option (List ℕ) → Wrong → Type 0
  RefusesDebug None record_name name input known old new why = RefusesFlat gives withholds record_name name input known old new why
  RefusesDebug (Some frames) record_name name input known old new why = RefusesOnFrames frames name input known old new why
