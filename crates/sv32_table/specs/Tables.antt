-- The tables of a process: table k, of 1024 words, is in physical page 0x200000 + k, and the root is table 0. Here
-- each call is a function on the list of tables; `TranslationProcess` has the walk over physical memory, in the
-- manual's steps.
use Rattle.std.specs.Prelude.{◌≡◌, ℕ, ◌+◌, ◌-◌, ◌*◌, ◌/◌, ◌%◌, ◌<◌, ◌≤◌, Bool, true, false, ◌&&◌, ◌||◌, not, nat_le, nat_lt, if◌then◌else◌, List, [], ◌∷◌, ◌++◌, length, replicate, slice_index, slice_index_or, slice_set, Option, Some, None, Result, Ok, Err}
use Rattle.page_memory.specs.declared.words.Access.{Access}
use Rattle.sv32_table.specs.Entry.{Entry, entry_of, word_of, shape_of, has_reserved, allows, is_aligned, touched, pointer_entry}
use Rattle.sv32_table.specs.declared.pte.Pte.{Pte}
use Rattle.sv32_table.specs.declared.pte.Shape.{Shape}
use Rattle.sv32_table.specs.declared.pte.Shape.TheVariants.{Invalid, Pointer, Leaf}
use Rattle.sv32_table.specs.declared.fault.WalkFault.{WalkFault}
use Rattle.sv32_table.specs.declared.fault.WalkFault.TheVariants.{PageFault, AccessFault}
use Rattle.sv32_table.specs.declared.walk.LeafPlace.{LeafPlace}
use Rattle.sv32_table.specs.declared.walk.Leaf.{Leaf as Translation}

-- the number of the root's physical page, which the pages of the other tables follow; and how many tables there may be
abbrev pub root_page : ℕ
root_page = 0x200000

abbrev pub most_tables : ℕ
most_tables = 0x200000

-- the word of an index in a table, and 0 where there is none
unfoldable pub word_in : List (List ℕ) → ℕ → ℕ → ℕ
word_in tables table index = slice_index (slice_index_or tables table []) index

-- the tables with this word written
unfoldable pub with_word : List (List ℕ) → ℕ → ℕ → ℕ → List (List ℕ)
with_word tables table index word = slice_set tables table (slice_set (slice_index_or tables table []) index word)

-- the table in the physical page of this number, where there are `count`
unfoldable pub table_of : ℕ → ℕ → Option ℕ
table_of count ppn = if nat_le root_page ppn && nat_lt (ppn - root_page) count then Some (ppn - root_page) else None

-- where a walk ends that went on to a table
unfoldable pub last_step : ℕ → ℕ → Shape → Result LeafPlace WalkFault
last_step table index Leaf = Ok (record { table = table; index = index; superpage = false })
last_step table index Pointer = Err PageFault
last_step table index Invalid = Err PageFault

unfoldable pub next_step : List (List ℕ) → ℕ → Option ℕ → Result LeafPlace WalkFault
next_step tables index (Some table) = last_step table index (shape_of (entry_of (word_in tables table index)))
next_step tables index None = Err AccessFault

unfoldable pub root_step : List (List ℕ) → ℕ → Entry → Shape → Result LeafPlace WalkFault
root_step tables address root Leaf = Ok (record { table = 0; index = address / 0x400000; superpage = true })
root_step tables address root Pointer =
    if has_reserved root then Err PageFault else next_step tables (address / 0x1000 % 1024) (table_of (length tables) root.ppn)
root_step tables address root Invalid = Err PageFault

-- where a walk for an address ends: the place of the leaf, if there is one
unfoldable pub walk_end : List (List ℕ) → ℕ → Result LeafPlace WalkFault
walk_end tables address =
    let root = entry_of (word_in tables 0 (address / 0x400000)) in
    root_step tables address root (shape_of root)

-- the physical address: a level-1 leaf gives only the upper ten bits of the number (step 8)
unfoldable pub physical_of : Bool → ℕ → ℕ → ℕ
physical_of true ppn address = ppn / 1024 * 0x400000 + address % 0x400000
physical_of false ppn address = ppn * 0x1000 + address % 0x1000

-- what a walk gives, and the tables after it
abbrev pub Walked : Type 0
Walked = Result Translation WalkFault × List (List ℕ)

-- whether the leaf that was found is used (steps 5 and 6)
unfoldable pub permits : Bool → Access → Entry → Bool
permits superpage access e = allows access e && (not superpage || is_aligned e)

unfoldable pub translated : List (List ℕ) → ℕ → Access → LeafPlace → Entry → Walked
translated tables address access place e =
    if permits place.superpage access e
    then (Ok (record { pte = record { 0 = word_of (touched access e) }; physical = physical_of place.superpage e.ppn address }), with_word tables place.table place.index (word_of (touched access e)))
    else (Err PageFault, tables)

unfoldable pub walked_from : List (List ℕ) → ℕ → Access → Result LeafPlace WalkFault → Walked
walked_from tables address access (Ok place) = translated tables address access place (entry_of (word_in tables place.table place.index))
walked_from tables address access (Err fault) = (Err fault, tables)

unfoldable pub walked : List (List ℕ) → ℕ → Access → Walked
walked tables address access = walked_from tables address access (walk_end tables address)

-- the table that a root entry points to, if it points to one
unfoldable pub pointed_by : ℕ → Entry → Shape → Option ℕ
pointed_by count root Pointer = if has_reserved root then None else table_of count root.ppn
pointed_by count root Leaf = None
pointed_by count root Invalid = None

-- the table of a page's level-0 word
unfoldable pub table_for : List (List ℕ) → ℕ → Option ℕ
table_for tables vpn =
    let root = entry_of (word_in tables 0 (vpn / 1024)) in
    pointed_by (length tables) root (shape_of root)

-- a new table
unfoldable pub zero_table : List ℕ
zero_table = replicate 1024 0

-- the tables with a new one after them, to which this root entry points
unfoldable pub with_table : List (List ℕ) → ℕ → List (List ℕ)
with_table tables index = with_word (tables ++ zero_table ∷ []) 0 index (word_of (pointer_entry (root_page + length tables)))

-- the tables with this page's word written, in a new table where the page has none
unfoldable pub mapped_from : List (List ℕ) → ℕ → ℕ → Option ℕ → List (List ℕ)
mapped_from tables vpn word (Some table) = with_word tables table (vpn % 1024) word
mapped_from tables vpn word None = with_word (with_table tables (vpn / 1024)) (length tables) (vpn % 1024) word

unfoldable pub mapped : List (List ℕ) → ℕ → ℕ → List (List ℕ)
mapped tables vpn word = mapped_from tables vpn word (table_for tables vpn)

-- the word of a page with V, if there is one, and the tables with it changed
unfoldable pub word_if_valid : ℕ → Bool → Option Pte
word_if_valid word true = Some (record { 0 = word })
word_if_valid word false = None

unfoldable pub found_from : List (List ℕ) → ℕ → Option ℕ → Option Pte
found_from tables vpn (Some table) =
    let word = word_in tables table (vpn % 1024) in
    word_if_valid word (entry_of word).valid
found_from tables vpn None = None

unfoldable pub found : List (List ℕ) → ℕ → Option Pte
found tables vpn = found_from tables vpn (table_for tables vpn)

unfoldable pub marked_from : List (List ℕ) → ℕ → (Entry → ℕ) → Option ℕ → List (List ℕ)
marked_from tables vpn change (Some table) =
    let e = entry_of (word_in tables table (vpn % 1024)) in
    if e.valid then with_word tables table (vpn % 1024) (change e) else tables
marked_from tables vpn change None = tables

unfoldable pub marked : List (List ℕ) → ℕ → (Entry → ℕ) → List (List ℕ)
marked tables vpn change = marked_from tables vpn change (table_for tables vpn)

-- each table has 1024 words, and there are as many as have a number, the root among them
pub record IsSized (tables : List (List ℕ)) : Type 0 where
  pub rooted : 1 ≤ length tables
  pub few : length tables ≤ most_tables
  pub sized : (table : ℕ) → table < length tables → length (slice_index_or tables table []) ≡ 1024
