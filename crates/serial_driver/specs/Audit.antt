-- What an audit of a machine looks for: that the list and the pages agree, and that no frame is lost.
use Rattle.machine_core.specs.Machine.{CoreValue}
use Rattle.machine_sides.specs.Auditing.{AreSound}

-- the list's resident entries are the resident pages, process by process, and the frames that are free or in pages are as many as the
-- machine was made with
abbrev pub IsSoundMachine : {S : Type 0} → CoreValue S → Type 0
IsSoundMachine core = AreSound core.pager.pager core.processes
