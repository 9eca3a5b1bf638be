-- Slots in files that are made, and why they could not be made.
use Rattle.std.specs.Prelude.{◌≡◌, ℕ, ⊤, List, min}
use Rattle.file_slots.specs.FileSlotValue.{FileSlotValue}
use Rattle.file_slots.specs.Making.{AreMade, StopsBehind}
use Rattle.file_slots.specs.declared.fault.FilesFault.{FilesFault}
use Rattle.file_slots.specs.declared.fault.FilesFault.TheVariants as files
use Rattle.image_files.specs.declared.fault.Fault.{Fault}
use Rattle.image_files.specs.declared.fault.Fault.TheVariants as fault

abbrev pub fault_of : FilesFault → Fault
fault_of (files.CannotMake name) = fault.CannotMake name
fault_of files.NoMemory = fault.NoMemory

-- New slots in files, which are numbered from 0: as many as are wanted, but no more than 512, each in a file that was made anew under
-- the name `PREFIX.K` of its number. `makes` says under which names an open file may have been made.
abbrev pub AreNewFiles : {F : Type 0} → (List ℕ → F → Type 0) → List ℕ → ℕ → List (FileSlotValue F) → Type 0
AreNewFiles makes prefix count slots = AreMade makes prefix (min count 512) slots

-- The first of their files that can't be made, as `refuses` says; those before it were made. Or there is not enough memory.
abbrev pub AreNoNewFiles : {F : Type 0} → (List ℕ → F → Type 0) → (List ℕ → Type 0) → List ℕ → ℕ → Fault → Type 0
AreNoNewFiles makes refuses prefix count (fault.CannotMake named) = (named.prefix.now ≡ prefix) × StopsBehind makes refuses prefix (min count 512) named.number
AreNoNewFiles makes refuses prefix count fault.NoMemory = ⊤
AreNoNewFiles makes refuses prefix count _ = ⊥
