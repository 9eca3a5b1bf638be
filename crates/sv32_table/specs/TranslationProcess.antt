-- The virtual address translation process in its steps (privileged manual, "Virtual Address Translation Process", at
-- Sv32: two levels, pages of 4096 bytes, entries of 4 bytes), for an access in user mode, where hardware sets A and D.
use Rattle.std.specs.Prelude.{◌≡◌, ℕ, ◌+◌, ◌*◌, ◌/◌, ◌%◌, not, if◌then◌else◌, List, [], ◌∷◌, ◌++◌, Option, Some, None, Result, Ok, Err}
use Rattle.std.specs.Ordering.{nat_cmp}
use Rattle.std.specs.FinMap.{FinMap, get, insert, from_entries}
use Rattle.page_memory.specs.declared.words.Access.{Access}
use Rattle.page_memory.specs.Words.{page_offset}
use Rattle.sv32_table.specs.Tables.{root_page}
use Rattle.sv32_table.specs.Entry.{Entry, entry_of, word_of, shape_of, has_reserved, allows, is_aligned, touched}
use Rattle.sv32_table.specs.declared.pte.Shape.{Shape}
use Rattle.sv32_table.specs.declared.pte.Shape.TheVariants.{Invalid, Pointer, Leaf}
use Rattle.sv32_table.specs.declared.fault.WalkFault.{WalkFault}
use Rattle.sv32_table.specs.declared.fault.WalkFault.TheVariants.{PageFault, AccessFault}
use Rattle.sv32_table.specs.declared.walk.Leaf.{Leaf as Translation}

-- physical memory, word by word: the words by their addresses
abbrev pub Words : Type 0
Words = FinMap nat_cmp ℕ

-- the fields of a virtual address
abbrev pub vpn_1 : ℕ → ℕ
vpn_1 address = address / 0x400000

abbrev pub vpn_0 : ℕ → ℕ
vpn_0 address = address / 0x1000 % 1024

-- what a successful walk gives: the physical address, the leaf as it is then, and the address of its word, which
-- is the only word that changes
pub record Success : Type 0 where
  pub physical : ℕ
  pub entry : Entry
  pub at : ℕ

-- step 8 at each level: a superpage takes VPN[0] from the virtual address
unfoldable pub physical_0 : ℕ → ℕ → ℕ
physical_0 ppn address = ppn * 0x1000 + page_offset address

unfoldable pub physical_1 : ℕ → ℕ → ℕ
physical_1 ppn address = (ppn / 1024 * 1024 + vpn_0 address) * 0x1000 + page_offset address

-- steps 5 to 8 at a leaf of level 0
unfoldable pub leaf_0 : ℕ → Access → ℕ → Entry → Result Success WalkFault
leaf_0 address access at e =
    if not (allows access e) then Err PageFault
    else Ok (record { physical = physical_0 e.ppn address; entry = touched access e; at = at })

-- and of level 1, which is to be aligned
unfoldable pub leaf_1 : ℕ → Access → ℕ → Entry → Result Success WalkFault
leaf_1 address access at e =
    if not (allows access e) then Err PageFault
    else (if not (is_aligned e) then Err PageFault
    else Ok (record { physical = physical_1 e.ppn address; entry = touched access e; at = at }))

-- steps 3 and 4 at level 0: there is no level below
unfoldable pub entry_0 : ℕ → Access → ℕ → Entry → Shape → Result Success WalkFault
entry_0 address access at e Invalid = Err PageFault
entry_0 address access at e Leaf = leaf_0 address access at e
entry_0 address access at e Pointer = Err PageFault

-- step 2 at level 0: where there is no word, the access is refused
unfoldable pub word_0 : ℕ → Access → ℕ → Option ℕ → Result Success WalkFault
word_0 address access at None = Err AccessFault
word_0 address access at (Some word) = entry_0 address access at (entry_of word) (shape_of (entry_of word))

unfoldable pub level_0 : Words → ℕ → ℕ → Access → Result Success WalkFault
level_0 words table address access = let at = table + vpn_0 address * 4 in word_0 address access at (get words at)

-- steps 3 and 4 at level 1: a pointer leads to level 0, if none of its reserved bits is set
unfoldable pub entry_1 : Words → ℕ → Access → ℕ → Entry → Shape → Result Success WalkFault
entry_1 words address access at e Invalid = Err PageFault
entry_1 words address access at e Leaf = leaf_1 address access at e
entry_1 words address access at e Pointer = if has_reserved e then Err PageFault else level_0 words (e.ppn * 0x1000) address access

unfoldable pub word_1 : Words → ℕ → Access → ℕ → Option ℕ → Result Success WalkFault
word_1 words address access at None = Err AccessFault
word_1 words address access at (Some word) = entry_1 words address access at (entry_of word) (shape_of (entry_of word))

unfoldable pub level_1 : Words → ℕ → ℕ → Access → Result Success WalkFault
level_1 words table address access = let at = table + vpn_1 address * 4 in word_1 words address access at (get words at)

-- step 1: it begins at the root table, in this physical page
unfoldable pub translate : Words → ℕ → ℕ → Access → Result Success WalkFault
translate words root address access = level_1 words (root * 0x1000) address access

-- a result and the words after it are what the process comes to
abbrev pub FollowsProcess : Result Success WalkFault → Words → Result Translation WalkFault → Words → Type 0
FollowsProcess (Ok success) old result new =
    (result ≡ Ok (record { pte = record { 0 = word_of success.entry }; physical = success.physical })) × (new ≡ insert old success.at (word_of success.entry))
FollowsProcess (Err fault) old result new = (result ≡ Err fault) × (new ≡ old)

-- the words of a table at an address
abbrev pub row : ℕ → List ℕ → List (ℕ × ℕ)
row address [] = []
row address (word ∷ words) = (address, word) ∷ row (address + 4) words

-- the words of tables that are in physical pages from this one on
abbrev pub rows : ℕ → List (List ℕ) → List (ℕ × ℕ)
rows ppn [] = []
rows ppn (table ∷ tables) = row (ppn * 0x1000) table ++ rows (ppn + 1) tables

-- the physical memory that the tables of a process represent
unfoldable pub physical_words : List (List ℕ) → Words
physical_words tables = from_entries (rows root_page tables)

-- what a call of `walk` gave is what the process comes to, over those words
unfoldable pub IsTranslation : List (List ℕ) → ℕ → Access → Result Translation WalkFault → List (List ℕ) → Type 0
IsTranslation old address access result new = FollowsProcess (translate (physical_words old) root_page address access) (physical_words old) result (physical_words new)
