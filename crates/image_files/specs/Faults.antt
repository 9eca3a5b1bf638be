-- Which faults report a line, and which report that a file can't be read or written.
use Rattle.std.specs.Prelude.{◌≡◌, ℕ, ⊤, List}
use Rattle.command_line.specs.declared.request.UsageError.{UsageError}
use Rattle.command_line.specs.declared.request.UsageError.TheVariants as usage
use Rattle.image_files.specs.declared.fault.Fault.{Fault}
use Rattle.image_files.specs.declared.fault.Fault.TheVariants as fault

-- what holds of the number of a bad line, where one is the fault
abbrev pub IfBadLine : Fault → (ℕ → Type 0) → Type 0
IfBadLine (fault.BadLine number) P = P number
IfBadLine _ P = ⊤

-- a fault of no line
abbrev pub IsOfNoLine : Fault → Type 0
IsOfNoLine why = IfBadLine why (λ number. ⊥)

-- the file of this name can't be read, and `withholds` holds of the name; or there is not enough memory
abbrev pub IsUnread : (List ℕ → Type 0) → List ℕ → Fault → Type 0
IsUnread withholds name (fault.CannotRead named) = (named.now ≡ name) × withholds name
IsUnread withholds name fault.NoMemory = ⊤
IsUnread withholds name _ = ⊥

-- the file of this name can't be written
abbrev pub IsUnwritten : List ℕ → Fault → Type 0
IsUnwritten name (fault.CannotRead named) = named.now ≡ name
IsUnwritten name _ = ⊥

-- words that make no request, as a fault
abbrev pub usage_fault : UsageError → Fault
usage_fault usage.BadUsage = fault.BadUsage
usage_fault usage.NoMemory = fault.NoMemory
