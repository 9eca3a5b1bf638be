-- What the commands that run images do with what they are asked for. `gives` relates a name to the bytes that a file of this name may be
-- found to hold. `old` and `new` are the contents of the output before and after.
use Rattle.std.specs.Prelude.{◌≡◌, ℕ, List, Option, None, map, option_map}
use Rattle.std.specs.Io.KnownBytes.{Appends}
use Rattle.command_line.specs.declared.request.DriveRequest.{DriveRequest}
use Rattle.command_line.specs.declared.request.RunRequest.{RunRequest}
use Rattle.machine_core.specs.declared.event.Reply.{Reply}
use Rattle.elf_image.specs.Start.{Start}
use Rattle.report_text.specs.RunStatus.{worst_status}
use Rattle.machine_sides.specs.declared.report.Report.{Report}
use Rattle.report_text.specs.ReportText.{report_text}
use Rattle.text_lines.specs.Text.{lines_of}
use Rattle.serial_commands.specs.Playing.{Plays, ReportsAsked}
use Rattle.image_files.specs.Reading.{AreGiven}
use Rattle.serial_commands.specs.Replies.{replies_text}

module _ (gives : List ℕ → List ℕ → Type 0) where
  -- A machine of the frames and slots that were asked for, in memory or in files of the names that were asked for, with a process
  -- for each image, the first on the input, ran in slices of the length
  -- that was asked for, until each process had ended or as many events had happened as were asked for; its report is written, and the
  -- status is that of its processes.
  pub record RunsAsAsked {F : Type 0} (makes : List ℕ → F → Type 0) (request : RunRequest) (old new : Option (List ℕ)) (status : ℕ) : Type 0 where
    pub starts : List Start
    pub report : Report
    pub given : AreGiven gives (option_map (λ s. s.now) request.input) (map (λ s. s.now) request.images.items) starts
    pub ran : ReportsAsked makes (option_map (λ s. s.now) request.swap) request.frames request.slots starts request.slice request.limit report
    pub told : Appends old new (report_text report None)
    pub status_is : status ≡ worst_status 0 (map (λ process. process.end) report.processes.items)

  -- a machine likewise played a script, to its end or to its first bad line, with these replies
  pub record IsPlayedAsAsked (request : DriveRequest) (replies : List Reply) (bad_line : Option ℕ) : Type 0 where
    pub starts : List Start
    pub script : List ℕ
    pub given : AreGiven gives None (map (λ s. s.now) request.images.items) starts
    pub read : gives request.script.now script
    pub played : Plays request.frames request.slots starts (lines_of script) replies bad_line

  -- and a line for each reply is written
  pub record PlaysAsAsked (request : DriveRequest) (old new : Option (List ℕ)) (bad_line : Option ℕ) : Type 0 where
    pub replies : List Reply
    pub played : IsPlayedAsAsked request replies bad_line
    pub told : Appends old new (replies_text replies)
