-- A page-table entry is a 32-bit word (privileged manual, Sv32 page-table entry): flags in bits 7 to 0, two bits that
-- software may use in bits 9 and 8, and a physical page number in bits 31 to 10.
use Rattle.std.specs.Prelude.{ℕ, ◌+◌, ◌*◌, ◌/◌, ◌%◌, Bool, true, false, ◌==◌, ◌&&◌, ◌||◌, not, if◌then◌else◌}
use Rattle.page_memory.specs.declared.words.Access.{Access}
use Rattle.page_memory.specs.declared.words.Access.TheVariants.{Fetch, Load, Store}
use Rattle.page_memory.specs.declared.rights.Rights.{Rights}
use Rattle.page_memory.specs.Rights.{has}
use Rattle.sv32_table.specs.declared.pte.Shape.{Shape}
use Rattle.sv32_table.specs.declared.pte.Shape.TheVariants.{Invalid, Pointer, Leaf}

pub record Entry : Type 0 where
  pub valid : Bool
  pub read : Bool
  pub write : Bool
  pub execute : Bool
  pub user : Bool
  pub global : Bool
  pub accessed : Bool
  pub dirty : Bool
  pub software : ℕ
  pub ppn : ℕ

-- whether the bit of this weight is set in a word
abbrev pub flag : ℕ → ℕ → Bool
flag word weight = word / weight % 2 == 1

-- the entry that a word is
unfoldable pub entry_of : ℕ → Entry
entry_of word =
    record {
      valid = flag word 1;
      read = flag word 2;
      write = flag word 4;
      execute = flag word 8;
      user = flag word 16;
      global = flag word 32;
      accessed = flag word 64;
      dirty = flag word 128;
      software = word / 256 % 4;
      ppn = word / 1024;
    }

-- what a flag adds to its word
abbrev pub weigh : Bool → ℕ → ℕ
weigh set weight = if set then weight else 0

-- the word that an entry is
unfoldable pub word_of : Entry → ℕ
word_of e =
    weigh e.valid 1 + weigh e.read 2 + weigh e.write 4 + weigh e.execute 8 + weigh e.user 16 + weigh e.global 32 + weigh e.accessed 64 + weigh e.dirty 128 + 256 * e.software + 1024 * e.ppn

-- an entry without V is none, and to write without reading is reserved; R or X makes a leaf, and none of R, W and X a
-- pointer to a table (translation process, steps 3 and 4)
unfoldable pub shape_of : Entry → Shape
shape_of e = if not e.valid || (e.write && not e.read) then Invalid else (if e.read || e.execute then Leaf else Pointer)

-- U, A and D of a pointer are reserved: software clears them
unfoldable pub has_reserved : Entry → Bool
has_reserved e = e.user || e.accessed || e.dirty

-- whether a leaf allows an access in user mode (step 5)
unfoldable pub allows : Access → Entry → Bool
allows Fetch e = e.user && e.execute
allows Load e = e.user && e.read
allows Store e = e.user && e.write

-- a level-1 leaf maps 4 MiB, which are to be aligned in physical memory: the lower ten bits of its number are 0 (step 6)
unfoldable pub is_aligned : Entry → Bool
is_aligned e = e.ppn % 1024 == 0

-- an access sets A, and a store D (step 7)
unfoldable pub touched : Access → Entry → Entry
touched Fetch e = record e { accessed = true }
touched Load e = record e { accessed = true }
touched Store e = record e { accessed = true; dirty = true }

-- no entry
abbrev pub blank : Entry
blank =
    record {
      valid = false;
      read = false;
      write = false;
      execute = false;
      user = false;
      global = false;
      accessed = false;
      dirty = false;
      software = 0;
      ppn = 0;
    }

-- the leaf of a user page in this physical page
unfoldable pub leaf_entry : ℕ → Rights → Bool → Entry
leaf_entry ppn rights accessed =
    record blank {
      valid = true;
      read = has rights 1;
      write = has rights 2;
      execute = has rights 4;
      user = true;
      accessed = accessed;
      ppn = ppn;
    }

-- and with D as given: the entry of a page that is mapped again
unfoldable pub page_entry : ℕ → Rights → Bool → Bool → Entry
page_entry ppn rights accessed dirty = record (leaf_entry ppn rights accessed) { dirty = dirty }

-- the pointer to the table in this physical page
unfoldable pub pointer_entry : ℕ → Entry
pointer_entry ppn = record blank { valid = true; ppn = ppn }
