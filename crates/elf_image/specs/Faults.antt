-- The numbers by which an image's faults are printed: the places of their tests.
use Rattle.std.specs.Prelude.{ℕ}
use Rattle.elf_image.specs.declared.fault.ElfFault.{ElfFault}
use Rattle.elf_image.specs.declared.fault.ElfFault.TheVariants.{Short, NotElf, WrongClass, WrongType, WrongMachine, Flags, Headers, Dynamic, SegmentOutOfFile, SizeOrder, Range, Overlap, TooLarge, TooSparse, EntryNotExecutable, NoMemory}

abbrev pub fault_number : ElfFault → ℕ
fault_number Short = 1
fault_number NotElf = 2
fault_number WrongClass = 3
fault_number WrongType = 4
fault_number WrongMachine = 5
fault_number Flags = 6
fault_number Headers = 7
fault_number Dynamic = 8
fault_number SegmentOutOfFile = 9
fault_number SizeOrder = 10
fault_number Range = 11
fault_number Overlap = 12
fault_number TooLarge = 13
fault_number TooSparse = 14
fault_number EntryNotExecutable = 15
fault_number NoMemory = 16
