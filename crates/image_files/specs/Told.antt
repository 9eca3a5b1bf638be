-- Which fault of an image file is reported.
use Rattle.std.specs.Prelude.{◌≡◌, ℕ, List, Result, Err}
use Rattle.elf_image.specs.Faults.{fault_number}
use Rattle.elf_image.specs.Image.{ImageContent}
use Rattle.elf_image.specs.declared.fault.ElfFault.{ElfFault}
use Rattle.elf_image.specs.declared.fault.ElfFault.TheVariants.{NoMemory}
use Rattle.image_files.specs.declared.fault.Fault.{Fault}
use Rattle.image_files.specs.declared.fault.Fault.TheVariants as fault

-- the fault of an image that was not made, by its number, with a file's name; or that there is not enough memory
abbrev pub TellsElfFault : List ℕ → Result ImageContent ElfFault → Fault → Type 0
TellsElfFault name made (fault.ElfFault named number) = (named.now ≡ name) × ((elf : ElfFault) × ((made ≡ Err elf) × ((¬ (elf ≡ NoMemory)) × (number ≡ fault_number elf))))
TellsElfFault name made fault.NoMemory = made ≡ Err NoMemory
TellsElfFault name made _ = ⊥
