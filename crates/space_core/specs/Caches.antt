-- What an ending changes of the caches of a process's harts.
use Rattle.std.specs.Prelude.{Option, Some, None}
use Rattle.flat_machine.specs.declared.end.End.{End}
pub use Rattle.paged_memory.specs.access.Notices.{noticed, emptied}
use Rattle.paged_memory.specs.Paged.{PagedValue}

-- the caches of all harts are emptied where the machine ends a process that has not ended
abbrev pub if_killed : {S : Type 0} → Option End → PagedValue S → PagedValue S
if_killed None memory = emptied memory
if_killed (Some ending) memory = memory

-- the same of a process that has ended
abbrev pub if_ended : {S : Type 0} → Option End → PagedValue S → PagedValue S
if_ended None memory = memory
if_ended (Some ending) memory = emptied memory
