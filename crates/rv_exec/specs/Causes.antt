-- The causes of traps that end a process, with their exception codes (privileged manual, `mcause`).
use Rattle.std.specs.Prelude.{ℕ}
use Rattle.page_memory.specs.declared.fault.MemoryFault.{MemoryFault}
use Rattle.page_memory.specs.declared.fault.MemoryFault.TheVariants.{Misaligned, PageFault}
use Rattle.rv_exec.specs.declared.cause.Cause.{Cause}
use Rattle.rv_exec.specs.declared.cause.Cause.TheVariants.{InstructionMisaligned, IllegalInstruction, Breakpoint, LoadMisaligned, StoreMisaligned, InstructionPageFault, LoadPageFault, StorePageFault}

abbrev pub cause_number : Cause → ℕ
cause_number InstructionMisaligned = 0
cause_number IllegalInstruction = 2
cause_number Breakpoint = 3
cause_number LoadMisaligned = 4
cause_number StoreMisaligned = 6
cause_number InstructionPageFault = 12
cause_number LoadPageFault = 13
cause_number StorePageFault = 15

-- why a fetch traps that memory refuses
abbrev pub fetch_cause : MemoryFault → Cause
fetch_cause Misaligned = InstructionMisaligned
fetch_cause PageFault = InstructionPageFault

-- why a load traps that memory refuses
abbrev pub load_cause : MemoryFault → Cause
load_cause Misaligned = LoadMisaligned
load_cause PageFault = LoadPageFault

-- why a store or an atomic operation traps that memory refuses
abbrev pub store_cause : MemoryFault → Cause
store_cause Misaligned = StoreMisaligned
store_cause PageFault = StorePageFault
