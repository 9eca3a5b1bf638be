-- Rights are a set of bits, and an access needs one of them.
use Rattle.std.specs.Prelude.{ℕ, Bool, ◌==◌, if◌then◌else◌}
use Rattle.std.specs.Int.RustNames.{bit_and, bit_or}
use Rattle.page_memory.specs.declared.rights.Rights.{Rights}
use Rattle.page_memory.specs.declared.words.Access.{Access}
use Rattle.page_memory.specs.declared.words.Access.TheVariants.{Fetch, Load, Store}

-- the rights of data and of a stack, and those of code
abbrev pub read_write : Rights
read_write = record { 0 = 3 }

abbrev pub read_execute : Rights
read_execute = record { 0 = 5 }

-- whether a set of rights holds a bit: READ is 1, WRITE is 2, EXECUTE is 4
abbrev pub has : Rights → ℕ → Bool
has rights right = bit_and rights.0 right == right

-- whether a page with these rights may be used in this way
abbrev pub may : Access → Rights → Bool
may Fetch rights = has rights 4
may Load rights = has rights 1
may Store rights = has rights 2

-- the rights to read, to write and to execute among these
abbrev pub known : Rights → Rights
known rights = record { 0 = bit_and rights.0 7 }

-- and to read where they are to write
unfoldable pub readable : Rights → Rights
readable rights = if may Store rights then record { 0 = bit_or (known rights).0 1 } else known rights
