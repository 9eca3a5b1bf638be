-- What a run is told to have come to, by what its parts say.
use Rattle.std.proofs.Common.{◌≡◌, ℕ, List, Option, Some, None, map, replicate, sym, ap, ◌∙◌, subst}
use Rattle.std.specs.Prelude.{⊤, max, Result, Ok, Err, IfOk, option_map}
use Rattle.machine_core.specs.Applying.{LeadsTo}
use Rattle.machine_core.specs.Machine.{CoreValue}
use Rattle.machine_core.specs.Opening.{MachineBegins}
use Rattle.elf_image.specs.Start.{Start}
use Rattle.std.specs.Io.KnownBytes.{Appends}
use Rattle.machine_sides.specs.FlatLines.{HaveLines}
use Rattle.machine_sides.specs.Reporting.{come_to}
use Rattle.machine_sides.specs.declared.report.Report.{Report}
use Rattle.serial_driver.specs.Limit.{EndsByLimit}
use Rattle.serial_driver.specs.Reporting.{Reports}
use Rattle.report_text.specs.ReportText.{report_text}
use Rattle.image_files.specs.declared.fault.Fault.{Fault}
use Rattle.report_text.specs.RunStatus.{worst_status}
use Rattle.file_slots.specs.FileSlotValue.{FileSlotValue}
use Rattle.image_files.specs.SlotFiles.{AreNewFiles}
use Rattle.swap_slots.specs.Slot.{zero_content}
use Rattle.serial_commands.specs.Playing.{Slot, page_of, never, unknown, failures_of, ReportsAsked, ReportsOver, WritesRun}

-- a new machine that was run, whose report was written
pub run_written : {S : Type 0} (held : S → List ℕ) (honest : Type 0) (failures : S → ℕ) (frames slice limit : ℕ) (free : List S) (starts : List Start) (start end : CoreValue S) (report : Report) (old new : Option (List ℕ)) (status : ℕ)
    → MachineBegins frames free starts start → LeadsTo held honest failures start end → EndsByLimit held honest failures (max slice 1) limit start end
    → ((frames : ℕ) (free : List S) (starts : List Start) → MachineBegins frames free starts start → honest → HaveLines starts (map come_to end.processes))
    → Reports end report → Appends old new (report_text report None) → status ≡ worst_status 0 (map (λ process. process.end) report.processes.items)
    → WritesRun (ReportsOver held honest failures frames free starts slice limit) old new status
run_written held honest failures frames slice limit free starts start end report old new status begins reached limited flat reports writes status_is = record {
  report = report;
  ran = record {
    start = start;
    end = end;
    new = begins;
    reached = reached;
    limited = limited;
    told = reports;
    flat = λ is_honest. subst (HaveLines starts) (sym reports.processes) (flat frames free starts begins is_honest);
  };
  told = writes;
  status_is = status_is;
}

-- a run that is of one kind is of another
pub writes_as : {P Q : Report → Type 0} (result : Result ℕ Fault) (old new : Option (List ℕ)) → ((report : Report) → P report → Q report) → IfOk result (WritesRun P old new) → IfOk result (WritesRun Q old new)
writes_as (Ok status) old new as_other wrote = record { report = wrote.report; ran = as_other wrote.report wrote.ran; told = wrote.told; status_is = wrote.status_is }
writes_as (Err fault) old new as_other wrote = wrote

-- a run on slots in memory, and one on slots in files, is the one that was asked for
pub on_memory : {X F : Type 0} (makes : List ℕ → F → Type 0) (named : X → List ℕ) (swap : Option X) (frames slots slice limit : ℕ) (starts : List Start) (free : List Slot) (report : Report) → swap ≡ None → free ≡ replicate slots zero_content
    → ReportsOver page_of ⊤ never frames free starts slice limit report → ReportsAsked makes (option_map named swap) frames slots starts slice limit report
on_memory makes named swap frames slots slice limit starts free report is made ran =
    subst (λ o. ReportsAsked makes (option_map named o) frames slots starts slice limit report) (sym is) (subst (λ l. ReportsOver page_of ⊤ never frames l starts slice limit report) made ran)

pub on_files : {X F : Type 0} (makes : List ℕ → F → Type 0) (named : X → List ℕ) (swap : Option X) (prefix : X) (frames slots slice limit : ℕ) (starts : List Start) (files : List (FileSlotValue F)) (report : Report) → swap ≡ Some prefix
    → AreNewFiles makes (named prefix) slots files → ReportsOver unknown ⊥ failures_of frames files starts slice limit report → ReportsAsked makes (option_map named swap) frames slots starts slice limit report
on_files makes named swap prefix frames slots slice limit starts files report is made ran =
    subst (λ o. ReportsAsked makes (option_map named o) frames slots starts slice limit report) (sym is) (record { files = files; made = made; run = ran })
