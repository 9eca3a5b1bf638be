-- What a record of a run on a machine says.
use Rattle.std.specs.Prelude.{◌≡◌, ⊤, ℕ, Bool, true, List, [], ◌∷◌, Option, Some, IsSome, Ok, map, slice_get, unwrap_or}
use Rattle.std.specs.Io.KnownBytes.{Appends}
use Rattle.elf_image.specs.Image.{ImageContent}
use Rattle.elf_image.specs.Start.{Start, start_of}
use Rattle.flat_machine.specs.Process.{Process, opening}
use Rattle.flat_machine.specs.declared.end.End.TheVariants.{Killed}
use Rattle.flat_machine.specs.declared.end.KillCause.TheVariants.{Limit}
use Rattle.guest_frames.specs.FrameRuns.{PlaysProcess}
use Rattle.guest_io.specs.GuestStatus.{guest_status}
use Rattle.guest_words.specs.Given.{GivesWithWords}
use Rattle.image_files.specs.WholeBytes.{AreWhole}
use Rattle.hart_carriers.specs.Ending.{IsReportOf}
use Rattle.hart_carriers.specs.declared.crew.CrewRequest.{CrewRequest}
use Rattle.hart_carriers.specs.declared.report.RunReport.{RunReport}
use Rattle.image_files.specs.Reading.{HoldsImage}
use Rattle.machine_sides.specs.FlatLines.{StandsForRun}
use Rattle.machine_sides.specs.Reporting.{told}
use Rattle.machine_sides.specs.declared.report.ProcessReport.{ProcessReport}
use Rattle.flat_machine.specs.Schedule.{IsJoined}
use Rattle.run_records.specs.Fitting.{IsRecord}
use Rattle.run_records.specs.Prints.{print_of}
use Rattle.run_records.specs.Records.{RecordValue, record_of, record_text}
use Rattle.run_records.specs.Replaying.{Replays, StopsReplay}
use Rattle.run_records.specs.declared.replaying.ReplayFault.{ReplayFault}
use Rattle.run_records.specs.declared.replaying.ReplayFault.TheVariants.{NoMemory}
use Rattle.run_recorder.specs.declared.fault.RecorderFault.{RecorderFault}
use Rattle.run_recorder.specs.declared.fault.RecorderFault.TheVariants as fault
use Rattle.run_recorder.specs.declared.request.Driver.{Driver}
use Rattle.run_recorder.specs.declared.request.Driver.TheVariants.{Serial, Workers}
use Rattle.run_recorder.specs.declared.request.RecordRequest.{RecordRequest}

-- A machine of so many frames, on so many slots in memory, ran one process by such a crew. Its audit found nothing amiss. This is what it
-- reported of the process.
pub record RanOnThreads (frames slots : ℕ) (start : Start) (wanted : CrewRequest) (report : ProcessReport) : Type 0 where
  pub run : RunReport
  pub is_report : IsReportOf (List ℕ) ⊤ frames slots (start ∷ []) wanted run
  pub sound : run.report.audit ≡ true
  pub first : slice_get run.report.processes.items 0 ≡ Some report

-- the machine that was asked for ran the process, and this is what it reported of it
abbrev pub RanBy : Driver → RecordRequest → Start → ProcessReport → Type 0
RanBy (Serial limit) request start report = PlaysProcess request.frames request.slots request.slice limit start report
RanBy (Workers workers ahead) request start report = RanOnThreads request.frames request.slots start (record { workers = workers; slice = request.slice; ahead = ahead }) report

-- A record says of a run of these bytes of an image on an input what was reported of it; one that goes on was stopped by the limit. Its turns are those
-- of a schedule, and its numbers fit its text.
pub record TellsReport (file input : List ℕ) (report : ProcessReport) (record_told : RecordValue) : Type 0 where
  pub image_is : record_told.image ≡ print_of file
  pub input_is : record_told.input ≡ print_of input
  pub turns_are : record_told.turns ≡ report.turns.items
  pub end_is : record_told.closing.end ≡ unwrap_or report.end (Killed Limit)
  pub steps_are : record_told.closing.steps ≡ report.steps
  pub output_is : record_told.closing.output ≡ print_of report.output.items
  pub joined : IsJoined record_told.turns
  pub fits : IsRecord record_told

-- The flat run of a record's turns comes to what the record says, and has the output that was reported. The text of the record is read as the record.
-- Its replay is refused only for lack of memory, and comes to that output.
pub record ReplaysTo (start : Start) (report : ProcessReport) (record_told : RecordValue) : Type 0 where
  pub flat : Process
  pub replays : Replays record_told (opening start.image start.input) flat
  pub output : flat.environment.output ≡ report.output.items
  pub read : record_of (record_text record_told) ≡ Ok record_told
  pub accepted : (fault : ReplayFault) (after : Process) → StopsReplay fault record_told (opening start.image start.input) after → fault ≡ NoMemory
  pub only : (after : Process) → Replays record_told (opening start.image start.input) after → after ≡ flat

-- The image file, with the guest's words, and the input were read whole. A machine ran that program as requested, and reported what a flat
-- run of these turns comes to. The file was made of the record. `takes` relates a name to the bytes of which a file of this name was made.
pub record Saves (gives takes : List ℕ → List ℕ → Type 0) (request : RecordRequest) (remaining : Option (List ℕ)) (report : ProcessReport) (told_as : RecordValue) : Type 0 where
  pub file : List ℕ
  pub image : ImageContent
  pub input : List ℕ
  pub given : GivesWithWords gives (map (λ s. s.now) request.argv.items) request.image.now file
  pub holds : HoldsImage file image
  pub whole : AreWhole remaining input
  pub ran : RanBy request.driver request (start_of image input) report
  pub flat : StandsForRun (start_of image input) (told report)
  pub tells : TellsReport file input report told_as
  pub saved : takes request.record.now (record_text told_as)

-- a run was recorded; what the program wrote is written, and the status is that of its ending
pub record RunsRecorded (gives takes : List ℕ → List ℕ → Type 0) (request : RecordRequest) (remaining old new : Option (List ℕ)) (status : ℕ) : Type 0 where
  pub report : ProcessReport
  pub told_as : RecordValue
  pub saves : Saves gives takes request remaining report told_as
  pub written : Appends old new report.output.items
  pub status_is : status ≡ guest_status told_as.closing.end

-- where only the output can't be written, the run was recorded in the file that is named
abbrev pub IsKept : (gives takes : List ℕ → List ℕ → Type 0) → RecordRequest → Option (List ℕ) → RecorderFault → Type 0
IsKept gives takes request remaining (fault.NoOutput named) =
    (named.now ≡ request.record.now) × ((report : ProcessReport) × ((told_as : RecordValue) × Saves gives takes request remaining report told_as))
IsKept gives takes request remaining _ = ⊤

-- it is no fault of the output
abbrev pub IsEarly : RecorderFault → Type 0
IsEarly (fault.NoOutput named) = ⊥
IsEarly _ = ⊤
