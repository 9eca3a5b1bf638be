-- What the commands that run a machine come to.
use Rattle.std.specs.Prelude.{◌≡◌, ℕ, ⊤, map, max, List, [], Option, Some, None, replicate}
use Rattle.std.specs.Io.KnownBytes.{Appends}
use Rattle.file_slots.specs.FileSlotValue.{FileSlotValue}
use Rattle.image_files.specs.SlotFiles.{AreNewFiles}
use Rattle.swap_slots.specs.Slot.{zero_content}
use Rattle.machine_core.specs.Applying.{Runs, LeadsTo}
use Rattle.machine_core.specs.Headline.{PagingIsInvisible}
use Rattle.machine_core.specs.Machine.{CoreValue}
use Rattle.elf_image.specs.Start.{Start}
use Rattle.machine_core.specs.Opening.{MachineBegins}
use Rattle.machine_core.specs.declared.event.Event.{Event}
use Rattle.machine_core.specs.declared.event.Reply.{Reply}
use Rattle.event_scripts.specs.DriveScript.{IsScript}
use Rattle.report_text.specs.RunStatus.{worst_status}
use Rattle.report_text.specs.ReportText.{report_text}
use Rattle.machine_sides.specs.declared.report.Report.{Report}
use Rattle.serial_driver.specs.FlatLines.{StandsForRuns}
use Rattle.serial_driver.specs.Limit.{EndsByLimit}
use Rattle.serial_driver.specs.Reporting.{Reports}

-- a slot in memory is seen as the page that it holds; it keeps what was saved, and never fails
abbrev pub Slot : Type 0
Slot = List ℕ

abbrev pub page_of : Slot → List ℕ
page_of slot = slot

abbrev pub never : Slot → ℕ
never slot = 0

-- the machine before its first event
abbrev pub IsNew : ℕ → ℕ → List Start → CoreValue Slot → Type 0
IsNew frames slots starts core = MachineBegins frames (replicate slots zero_content) starts core

-- a script, by its lines, on a new machine: the replies to the events above its first bad line, whose number is given
pub record Plays (frames slots : ℕ) (starts : List Start) (lines : List (List ℕ)) (replies : List Reply) (bad_line : Option ℕ) : Type 0 where
  pub events : List Event
  pub start : CoreValue Slot
  pub end : CoreValue Slot
  pub new : IsNew frames slots starts start
  pub script : IsScript lines events bad_line
  pub runs : Runs page_of ⊤ never events replies start end
  pub invisible : PagingIsInvisible page_of ⊤ never events replies start end

-- What is reported of a new machine on these slots after a run in slices of so many instructions (or of one), which so many events end. Where slots are
-- honest, each line is that of a flat run of its process's image and input.
pub record ReportsOver {S : Type 0} (held : S → List ℕ) (honest : Type 0) (failures : S → ℕ) (frames : ℕ) (free : List S) (starts : List Start) (slice limit : ℕ) (report : Report) : Type 0 where
  pub start : CoreValue S
  pub end : CoreValue S
  pub new : MachineBegins frames free starts start
  pub reached : LeadsTo held honest failures start end
  pub limited : EndsByLimit held honest failures (max slice 1) limit start end
  pub told : Reports end report
  pub flat : honest → StandsForRuns starts report

-- the same on so many slots in memory, which are honest
abbrev pub ReportsRun : ℕ → ℕ → List Start → ℕ → ℕ → Report → Type 0
ReportsRun frames slots starts slice limit report = ReportsOver page_of ⊤ never frames (replicate slots zero_content) starts slice limit report

-- what a slot in a file holds is not known, and it is not honest
abbrev pub unknown : {F : Type 0} → FileSlotValue F → List ℕ
unknown slot = []

abbrev pub failures_of : {F : Type 0} → FileSlotValue F → ℕ
failures_of slot = slot.failures

-- the same on slots in files, by the names that begin with a prefix; `makes` relates a name to open files that may have been made under it
pub record ReportsFiles {F : Type 0} (makes : List ℕ → F → Type 0) (prefix : List ℕ) (frames slots : ℕ) (starts : List Start) (slice limit : ℕ) (report : Report) : Type 0 where
  pub files : List (FileSlotValue F)
  pub made : AreNewFiles makes prefix slots files
  pub run : ReportsOver unknown ⊥ failures_of frames files starts slice limit report

-- slots are in memory, or in files where a prefix of their names is given
abbrev pub ReportsAsked : {F : Type 0} → (List ℕ → F → Type 0) → Option (List ℕ) → ℕ → ℕ → List Start → ℕ → ℕ → Report → Type 0
ReportsAsked makes None frames slots starts slice limit report = ReportsRun frames slots starts slice limit report
ReportsAsked makes (Some prefix) frames slots starts slice limit report = ReportsFiles makes prefix frames slots starts slice limit report

-- a machine has come to what is wanted; its report is written, and the status is that of its processes
pub record WritesRun (Came : Report → Type 0) (old new : Option (List ℕ)) (status : ℕ) : Type 0 where
  pub report : Report
  pub ran : Came report
  pub told : Appends old new (report_text report None)
  pub status_is : status ≡ worst_status 0 (map (λ process. process.end) report.processes.items)
