-- Which slots in files are made, and why they are not.
use Rattle.std.specs.Prelude.{◌≡◌, ℕ, ◌<◌, ⊤, List, All, map}
use Rattle.std.specs.List.{range_with_len}
use Rattle.file_slots.specs.FileNames.{file_name}
use Rattle.file_slots.specs.FileSlotValue.{FileSlotValue}
use Rattle.file_slots.specs.declared.fault.FilesFault.{FilesFault}
use Rattle.file_slots.specs.declared.fault.FilesFault.TheVariants.{CannotMake, NoMemory}
use Rattle.file_slots.specs.declared.file_name.FileName.{FileName}

-- a fault of the file of this name, which can't be made; or want of memory
abbrev pub StopsAt : (List ℕ → Type 0) → FileName → FilesFault → Type 0
StopsAt refuses name (CannotMake named) = (named ≡ name) × refuses (file_name name.prefix.now name.number)
StopsAt refuses name NoMemory = ⊤

-- `makes` says under which names an open file may have been made anew; `refuses` says which files may be those that can't be made
module _ {F : Type 0} (makes : List ℕ → F → Type 0) where
  -- a slot of this number that was never used, in a file that was made under its name
  pub record IsMade (prefix : List ℕ) (number : ℕ) (slot : FileSlotValue F) : Type 0 where
    pub number_is : slot.number ≡ number
    pub unused : slot.failures ≡ 0
    pub named : makes (file_name prefix number) slot.file

  -- slots that were never used, by their numbers from 0 on, each in a file that was made under the name of its number
  pub record AreMade (prefix : List ℕ) (count : ℕ) (slots : List (FileSlotValue F)) : Type 0 where
    pub numbers : map (λ slot. slot.number) slots ≡ range_with_len 0 count
    pub unused : All (λ slot. slot.failures ≡ 0) slots
    pub named : All (λ slot. makes (file_name prefix slot.number) slot.file) slots

  -- the file of this number, which is one of those that are wanted, can't be made, and those of the numbers below it were made
  pub record StopsBehind (refuses : List ℕ → Type 0) (prefix : List ℕ) (count number : ℕ) : Type 0 where
    pub above : List (FileSlotValue F)
    pub made : AreMade prefix number above
    pub wanted : number < count
    pub refused : refuses (file_name prefix number)

  -- why so many slots are not made: the fault names the first of their files that can't be made; or there is not enough memory
  abbrev pub StopsMaking : (List ℕ → Type 0) → List ℕ → ℕ → FilesFault → Type 0
  StopsMaking refuses prefix count (CannotMake named) = (named.prefix.now ≡ prefix) × StopsBehind refuses prefix count named.number
  StopsMaking refuses prefix count NoMemory = ⊤
