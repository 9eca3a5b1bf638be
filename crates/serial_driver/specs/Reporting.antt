-- What is reported of a machine that has run.
use Rattle.std.specs.Prelude.{⊤, Result, Ok, Err}
use Rattle.machine_core.specs.Machine.{CoreValue}
use Rattle.machine_sides.specs.Reporting.{Reports as tells}
use Rattle.machine_sides.specs.declared.report.Report.{Report}
use Rattle.serial_driver.specs.declared.reporting.NoReport.{NoReport}
use Rattle.serial_driver.specs.declared.reporting.NoReport.TheVariants.{NothingDone, RunDone}

-- a report gives what each process has come to, what was counted, and whether an audit finds no fault
abbrev pub Reports : {S : Type 0} → CoreValue S → Report → Type 0
Reports core report = tells core.pager core.processes report

-- this holds where the run is done, whether there is a report of it or not
abbrev pub IfDone : Result Report NoReport → Type 0 → Type 0
IfDone (Ok report) holds = holds
IfDone (Err RunDone) holds = holds
IfDone (Err NothingDone) holds = ⊤
