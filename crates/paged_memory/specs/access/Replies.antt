-- What an access that was not served at once answers, as a bus's answer.
use Rattle.std.specs.Prelude.{ℕ, Result, Ok, Err}
use Rattle.page_memory.specs.declared.fault.MemoryFault.TheVariants.{Misaligned, PageFault}
use Rattle.rv_exec.specs.declared.bus.BusError.{BusError}
use Rattle.rv_exec.specs.declared.bus.BusError.TheVariants.{Fault, Absent}
use Rattle.paged_memory.specs.declared.reply.LoadReply.{LoadReply}
use Rattle.paged_memory.specs.declared.reply.LoadReply.TheVariants as load
use Rattle.paged_memory.specs.declared.reply.StoreReply.{StoreReply}
use Rattle.paged_memory.specs.declared.reply.StoreReply.TheVariants as store

abbrev pub loaded_by : LoadReply → Result ℕ BusError
loaded_by (load.Number number) = Ok number
loaded_by (load.Absent page) = Err (Absent page)
loaded_by load.Misaligned = Err (Fault Misaligned)
loaded_by load.PageFault = Err (Fault PageFault)

abbrev pub stored_by : StoreReply → Result (Unit {0}) BusError
stored_by store.Done = Ok tt
stored_by (store.Absent page) = Err (Absent page)
stored_by store.Misaligned = Err (Fault Misaligned)
stored_by store.PageFault = Err (Fault PageFault)
