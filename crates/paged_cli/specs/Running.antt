-- What a run by threads comes to, as it was asked for.
use Rattle.std.specs.Prelude.{◌≡◌, ℕ, ⊤, Bool, List, Option, Some, None, length, map, option_map, replicate}
use Rattle.std.specs.Io.KnownBytes.{Appends}
use Rattle.command_line.specs.declared.request.RunRequest.{RunRequest}
use Rattle.file_slots.specs.FileSlotValue.{FileSlotValue}
use Rattle.hart_carriers.specs.Ending.{IsReportOf}
use Rattle.hart_carriers.specs.declared.crew.CrewRequest.{CrewRequest}
use Rattle.hart_carriers.specs.declared.report.RunReport.{RunReport}
use Rattle.image_files.specs.Reading.{AreGiven}
use Rattle.image_files.specs.SlotFiles.{AreNewFiles}
use Rattle.elf_image.specs.Start.{Start}
use Rattle.report_text.specs.RunStatus.{worst_status}
use Rattle.report_text.specs.ReportText.{report_text}
use Rattle.swap_slots.specs.Slot.{zero_content}

-- What a machine of so many frames, on these slots, honest or not, comes to where such a crew runs these processes: what its report owes.
abbrev pub CameTo : {S : Type 0} → Type 0 → ℕ → List S → List Start → CrewRequest → RunReport → Type 0
CameTo {S} honest frames slots starts wanted run = IsReportOf S honest frames (length slots) starts wanted run

-- the same on new slots in files, which are not honest, by the names that begin with a prefix; `makes` says under which names an open
-- file may have been made
pub record RunsFiles {F : Type 0} (makes : List ℕ → F → Type 0) (prefix : List ℕ) (frames slots : ℕ) (starts : List Start) (wanted : CrewRequest) (run : RunReport) : Type 0 where
  pub files : List (FileSlotValue F)
  pub made : AreNewFiles makes prefix slots files
  pub came : CameTo ⊥ frames files starts wanted run

-- slots are in memory, and honest, or in files where a prefix of their names is given
abbrev pub RunsAsked : {F : Type 0} → (List ℕ → F → Type 0) → Option (List ℕ) → ℕ → ℕ → List Start → CrewRequest → RunReport → Type 0
RunsAsked makes None frames slots starts wanted run = CameTo ⊤ frames (replicate slots zero_content) starts wanted run
RunsAsked makes (Some prefix) frames slots starts wanted run = RunsFiles makes prefix frames slots starts wanted run

-- A machine of the frames and slots that were asked for ran, with a process for each image, the first on the input, by as many workers
-- and in slices of the length that were asked for, until each process had ended, with changed pages written ahead where that was asked for;
-- its report is written, and the status is that of its processes.
pub record IsRunAsAsked (gives : List ℕ → List ℕ → Type 0) {F : Type 0} (makes : List ℕ → F → Type 0) (request : RunRequest) (workers : ℕ) (ahead : Bool) (old new : Option (List ℕ)) (status : ℕ) : Type 0 where
  pub starts : List Start
  pub run : RunReport
  pub given : AreGiven gives (option_map (λ s. s.now) request.input) (map (λ s. s.now) request.images.items) starts
  pub ran_as : RunsAsked makes (option_map (λ s. s.now) request.swap) request.frames request.slots starts (record { workers = workers; slice = request.slice; ahead = ahead }) run
  pub written : Appends old new (report_text run.report run.cleans)
  pub status_is : status ≡ worst_status 0 (map (λ process. process.end) run.report.processes.items)
