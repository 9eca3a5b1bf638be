-- What is printed of machines that have run.
use Rattle.std.specs.Prelude.{ℕ, ◌+◌, Bool, Option, Some, None, List, [], ◌∷◌, ◌++◌, codes, map, if◌then◌else◌}
use Rattle.std.specs.Fmt.{decimal}
use Rattle.machine_sides.specs.Reporting.{Told, told}
use Rattle.machine_sides.specs.declared.report.Report.{Report}
use Rattle.process_text.specs.ExitStatus.{ending_of}
use Rattle.process_text.specs.ProcessText.{line_end, process_text}

-- what is printed of a process of this number
abbrev pub line_text : ℕ → Told → List ℕ
line_text number process = process_text number process.output (ending_of process.end) process.steps

-- the same of processes, by rising number, from one on
unfoldable pub processes_text : ℕ → List Told → List ℕ
processes_text number [] = []
processes_text number (process ∷ processes) = line_text number process ++ processes_text (number + 1) processes

-- what was counted: frames, pages that came in and that were to go, and of those how many were saved and how many let go unchanged;
-- and questions that the list was asked
unfoldable pub places_text : (frames page_ins victims : ℕ) → List ℕ
places_text frames page_ins victims = codes "frames " ++ decimal frames ++ codes " page-ins " ++ decimal page_ins ++ codes " victims " ++ decimal victims

unfoldable pub savings_text : (saves drops questions : ℕ) → List ℕ
savings_text saves drops questions = codes " saves " ++ decimal saves ++ codes " drops " ++ decimal drops ++ codes " questions " ++ decimal questions

-- how many pages were cleaned, where they were to be
unfoldable pub cleans_text : Option ℕ → List ℕ
cleans_text None = line_end
cleans_text (Some cleans) = codes " cleans " ++ decimal cleans ++ line_end

abbrev pub counts_text : Report → Option ℕ → List ℕ
counts_text report cleans = places_text report.frames report.page_ins report.victims ++ (savings_text report.saves report.drops report.questions ++ cleans_text cleans)

-- whether an audit found nothing amiss
abbrev pub audit_text : Bool → List ℕ
audit_text is_sound = codes "audit " ++ (if is_sound then codes "ok" else codes "fault") ++ line_end

-- all that is printed of a machine: its processes, what was counted, and the audit
abbrev pub report_text : Report → Option ℕ → List ℕ
report_text report cleans = processes_text 0 (map told report.processes.items) ++ (counts_text report cleans ++ audit_text report.audit)
