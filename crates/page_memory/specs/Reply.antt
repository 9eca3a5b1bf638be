-- What an access to a page that is not remembered answers, as memory's answer.
use Rattle.std.specs.Prelude.{ℕ, Result, Ok, Err}
use Rattle.page_memory.specs.declared.fault.MemoryFault.{MemoryFault}
use Rattle.page_memory.specs.declared.fault.MemoryFault.TheVariants as fault
use Rattle.page_memory.specs.declared.reply.Reply.{Reply}
use Rattle.page_memory.specs.declared.reply.Reply.TheVariants.{Number, Misaligned, PageFault}

abbrev pub answered : Reply → Result ℕ MemoryFault
answered (Number number) = Ok number
answered Misaligned = Err fault.Misaligned
answered PageFault = Err fault.PageFault
