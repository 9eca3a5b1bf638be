-- What a machine has come to once its threads are joined.
use Rattle.std.specs.Prelude.{◌≡◌, ◌≤◌, ◌-◌, ◌^◌, ℕ, Bool, true, Option, Some, None, List, length, vec_len, map, All, IsSome, is_some, min, sum_by, if◌then◌else◌}
use Rattle.held_machine.specs.Audit.{IsSound, AgreeEverywhere}
use Rattle.held_machine.specs.DeskValue.{DeskValue}
use Rattle.held_machine.specs.HeldValue.{HeldValue}
use Rattle.hart_carriers.specs.FlatLines.{counts_of}
use Rattle.elf_image.specs.Start.{Start}
use Rattle.hart_carriers.specs.declared.crew.Crew.{Crew}
use Rattle.hart_carriers.specs.declared.crew.CrewRequest.{CrewRequest}
use Rattle.hart_carriers.specs.declared.report.RunReport.{RunReport}
use Rattle.machine_sides.specs.FlatLines.{HaveLines}
use Rattle.machine_sides.specs.Reporting.{Counts, come_to, told}
use Rattle.machine_sides.specs.declared.report.ProcessReport.{ProcessReport}
use Rattle.space_core.specs.StandsFor.{StandsFor}
use Rattle.status_cell.specs.ViewerValue.{ViewerValue}

-- how many pages of these processes were cleaned ahead, as a count that stays at 2^64 - 1 has it
unfoldable pub cleans_of : {S : Type 0} → List (HeldValue S) → ℕ
cleans_of held = min (sum_by (λ h. h.cleans) held) (2 ^ 64 - 1)

-- what is reported of it: nothing where no page was to be
abbrev pub told_cleans : {S : Type 0} → Bool → List (HeldValue S) → Option ℕ
told_cleans ahead held = if ahead then Some (cleans_of held) else None

-- A pager and so many processes, as their locks kept them, on which an audit finds nothing amiss: list and pages agree, page by page. Each line
-- says what its process has come to: its turns are those that the process ran.
pub record EndsSound (S : Type 0) (processes : ℕ) (run : RunReport) : Type 0 where
  pub desk : DeskValue
  pub held : List (HeldValue S)
  pub many : length held ≡ processes
  pub come : map told run.report.processes.items ≡ map (λ h. come_to h.side) held
  pub sound : IsSound desk held
  pub agree : AgreeEverywhere desk held
  pub size : desk.pager.pager.size ≡ run.report.frames
  pub counts : Counts desk.pager run.report
  pub cleans : run.cleans ≡ told_cleans run.crew.ahead held

-- where slots are honest, the registers and the memory of each of these processes are what the flat run of its turns leaves
pub record EndStanding {S : Type 0} (content : S → List ℕ) (honest : Type 0) (processes : ℕ) (run : RunReport) : Type 0 where
  pub ends : EndsSound S processes run
  pub stand : honest → All (λ h. StandsFor content h.side) ends.held

-- there is an ending in every line
abbrev pub HaveEnded : List ProcessReport → Type 0
HaveEnded processes = All (λ process. IsSome process.end) processes

-- each viewer of a process's counts has seen, in the end, what is reported of that process
abbrev pub ShowLines : List ViewerValue → List ProcessReport → Type 0
ShowLines viewers processes = map (λ viewer. viewer.seen) viewers ≡ map counts_of processes

-- a crew of as many workers as are wanted, who give slices of as many instructions, or of those that could be started; the daemon writes pages
-- ahead where that is wanted
pub record IsCrewOf (wanted : CrewRequest) (crew : Crew) : Type 0 where
  pub slice_is : crew.slice ≡ wanted.slice
  pub ahead_is : crew.ahead ≡ wanted.ahead
  pub few : crew.workers ≤ wanted.workers
  pub all : crew.is_whole ≡ true → crew.workers ≡ wanted.workers

-- What is reported of a machine of so many frames and slots that ran these processes by such a crew. Where its audit found nothing amiss its
-- pool was of these slots in the end, list and pages agreed, each process has ended, and each viewer of a process's counts shows what its line
-- says; where its slots are honest besides, each line is that of a flat run.
pub record IsReportOf (S : Type 0) (honest : Type 0) (frames slots : ℕ) (starts : List Start) (wanted : CrewRequest) (run : RunReport) : Type 0 where
  pub stands : honest → run.report.audit ≡ true → HaveLines starts (map told run.report.processes.items)
  pub last : run.published.items ≡ map counts_of run.report.processes.items
  pub shown : run.report.audit ≡ true → ShowLines run.viewers.items run.report.processes.items
  pub many : run.report.audit ≡ true → vec_len run.report.processes ≡ length starts
  pub ended : run.report.audit ≡ true → HaveEnded run.report.processes.items
  pub frames_are : run.report.frames ≡ frames
  pub slots_are : run.report.audit ≡ true → run.slots ≡ slots
  pub crew_is : IsCrewOf wanted run.crew
  pub cleans_are : is_some run.cleans ≡ wanted.ahead
  pub sound : run.report.audit ≡ true → EndsSound S (length starts) run
