-- The entry that a page has in tables that form a tree.
use Rattle.std.specs.Prelude.{◌≡◌, ℕ, ◌+◌, ◌*◌, ◌%◌, ◌^◌, ◌<◌, Bool, true, false, ◌&&◌, ◌==◌, if◌then◌else◌, Option, Some, None, Result, Ok, Err, List, length, zero, suc, is_some, ◌||◌, ◌/◌}
use Rattle.page_memory.specs.declared.words.Access.{Access}
use Rattle.sv32_table.specs.declared.pte.Pte.{Pte}
use Rattle.sv32_table.specs.declared.pte.Shape.{Shape}
use Rattle.sv32_table.specs.declared.pte.Shape.TheVariants.{Invalid, Pointer, Leaf}
use Rattle.sv32_table.specs.declared.fault.WalkFault.{WalkFault}
use Rattle.sv32_table.specs.declared.fault.WalkFault.TheVariants.{PageFault}
use Rattle.sv32_table.specs.declared.walk.Leaf.{Leaf as Translation}
use Rattle.sv32_table.specs.Entry.{Entry, entry_of, word_of, shape_of, allows, touched, blank, weigh}
use Rattle.sv32_table.specs.Tables.{IsSized, word_in, pointed_by, table_for}

-- the entry of a page in its table, and a blank one where it has none
unfoldable pub entry_in : List (List ℕ) → ℕ → Option ℕ → Entry
entry_in tables vpn (Some table) = entry_of (word_in tables table (vpn % 1024))
entry_in tables vpn None = blank

unfoldable pub entry_at : List (List ℕ) → ℕ → Entry
entry_at tables vpn = entry_in tables vpn (table_for tables vpn)

-- the table that a root word points to
unfoldable pub pointed : List (List ℕ) → ℕ → Option ℕ
pointed tables index = let root = entry_of (word_in tables 0 index) in pointed_by (length tables) root (shape_of root)

-- how many root words below this index point to a table
unfoldable pub pointers_below : List (List ℕ) → ℕ → ℕ
pointers_below tables zero = 0
pointers_below tables (suc index) = weigh (is_some (pointed tables index)) 1 + pointers_below tables index

-- the tables form a tree: a root word is 0 or points to a table other than the root, no table is reached twice, and each
-- is reached: there are as many as root words that point to one, and the root
pub record IsTree (tables : List (List ℕ)) : Type 0 where
  pub sized : IsSized tables
  pub empty : (index : ℕ) → index < 1024 → pointed tables index ≡ None → word_in tables 0 index ≡ 0
  pub below : (index table : ℕ) → index < 1024 → pointed tables index ≡ Some table → 0 < table
  pub apart : (index index' table : ℕ) → index < 1024 → index' < 1024 → pointed tables index ≡ Some table → pointed tables index' ≡ Some table → index ≡ index'
  pub reached : length tables ≡ pointers_below tables 1024 + 1

abbrev pub is_leaf : Shape → Bool
is_leaf Leaf = true
is_leaf Pointer = false
is_leaf Invalid = false

-- the answer of a walk for a page with this entry
unfoldable pub walk_entry : Entry → ℕ → Access → Result Translation WalkFault
walk_entry e address access =
    if is_leaf (shape_of e) && allows access e
    then Ok (record { pte = record { 0 = word_of (touched access e) }; physical = e.ppn * 0x1000 + address % 0x1000 })
    else Err PageFault

-- the entry of a page after a walk
unfoldable pub walked_entry : Entry → Access → Entry
walked_entry e access = if is_leaf (shape_of e) && allows access e then touched access e else e

-- the entry with V cleared from the word, and the entry with A cleared, and with D cleared, where it has V
unfoldable pub unmapped_entry : Entry → Entry
unmapped_entry e = if e.valid then blank else e

unfoldable pub unaccessed_entry : Entry → Entry
unaccessed_entry e = if e.valid then record e { accessed = false } else e

unfoldable pub undirtied_entry : Entry → Entry
undirtied_entry e = if e.valid then record e { dirty = false } else e

-- the word of an entry with V, if it has V
unfoldable pub valid_word : Entry → Option Pte
valid_word e = if e.valid then Some (record { 0 = word_of e }) else None

-- one page's entry is this now, and every other page's is what it was
abbrev pub ChangesEntry : List (List ℕ) → List (List ℕ) → ℕ → Entry → Type 0
ChangesEntry old new vpn e = (q : ℕ) → q < 2 ^ 20 → entry_at new q ≡ (if q == vpn then e else entry_at old q)

-- whether the entry has A, if it has V
unfoldable pub accessed_of : Entry → Option Bool
accessed_of e = if e.valid then Some e.accessed else None

-- whether the entry has D, if it has V
unfoldable pub dirty_mark_of : Entry → Option Bool
dirty_mark_of e = if e.valid then Some e.dirty else None

-- whether the entry has D, and V
unfoldable pub dirty_of : Entry → Bool
dirty_of e = e.valid && e.dirty

-- whether there is a table for a page's entry: then mapping the page takes no memory
unfoldable pub has_table : List (List ℕ) → ℕ → Bool
has_table tables vpn = is_some (table_for tables vpn)

-- there is a table for each page for which there was one, and for no other
abbrev pub SameTables : List (List ℕ) → List (List ℕ) → Type 0
SameTables old new = (q : ℕ) → q < 2 ^ 20 → has_table new q ≡ has_table old q

-- and for the pages of this page's 4 MiB besides
abbrev pub AddsTable : List (List ℕ) → List (List ℕ) → ℕ → Type 0
AddsTable old new vpn = (q : ℕ) → q < 2 ^ 20 → has_table new q ≡ (has_table old q || q / 1024 == vpn / 1024)
