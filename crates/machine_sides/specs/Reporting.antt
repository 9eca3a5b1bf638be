-- What is reported of a machine that has run.
use Rattle.std.specs.Prelude.{◌≡◌, ◌↔◌, ℕ, List, Option, IsTrue, map, length}
use Rattle.flat_machine.specs.declared.end.End.{End}
use Rattle.flat_machine.specs.declared.schedule.Turn.{Turn}
use Rattle.flat_machine.specs.Schedule.{written_out}
use Rattle.machine_sides.specs.Auditing.{AreSound}
use Rattle.machine_sides.specs.Sides.{PagerSideValue}
use Rattle.machine_sides.specs.declared.report.ProcessReport.{ProcessReport}
use Rattle.machine_sides.specs.declared.report.Report.{Report}
use Rattle.space_core.specs.StandsFor.{SpaceValue}

-- a process's output and ending, how many instructions ran, and whose turns they were
pub record Told : Type 0 where
  pub output : List ℕ
  pub end : Option End
  pub steps : ℕ
  pub turns : List Turn

abbrev pub told : ProcessReport → Told
told report = record { output = report.output.items; end = report.end; steps = report.steps; turns = report.turns.items }

-- what a process has come to
abbrev pub come_to : {S : Type 0} → SpaceValue S → Told
come_to space = record { output = space.running.environment.output; end = space.running.ending; steps = length (written_out space.schedule); turns = space.schedule }

-- the counts of a report are those of this pager
pub record Counts (pager : PagerSideValue) (report : Report) : Type 0 where
  pub page_ins : report.page_ins ≡ pager.pager.tallies.page_ins
  pub victims : report.victims ≡ pager.pager.tallies.victims
  pub saves : report.saves ≡ pager.saves
  pub drops : report.drops ≡ pager.drops
  pub questions : report.questions ≡ pager.pager.tallies.questions

-- a report gives what each of these processes has come to, what was counted, and whether an audit finds no fault
pub record Reports {S : Type 0} (pager : PagerSideValue) (spaces : List (SpaceValue S)) (report : Report) : Type 0 where
  pub processes : map told report.processes.items ≡ map come_to spaces
  pub frames : report.frames ≡ pager.pager.size
  pub counts : Counts pager report
  pub audit : IsTrue report.audit ↔ AreSound pager.pager spaces
