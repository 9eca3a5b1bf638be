-- Calls on tables that form a tree keep the tree, and change one page's entry alone.
use Rattle.std.proofs.Common.{◌≡◌, ℕ, ◌/◌, ◌%◌, ◌^◌, ◌<◌, Bool, true, false, ◌||◌, cond, refl, sym, ap, ◌∙◌, arith, List, length, Option, Some, None, Err, ◌==◌}
use Rattle.std.specs.Prelude.{is_some}
use Rattle.std.proofs.lemmas.Bool.Decides.{nat_tests}
use Rattle.page_memory.specs.declared.words.Access.{Access}
use Rattle.page_memory.specs.declared.words.Access.TheVariants.{Fetch, Load, Store}
use Rattle.sv32_table.specs.declared.pte.Pte.{Pte}
use Rattle.sv32_table.specs.declared.pte.Shape.{Shape}
use Rattle.sv32_table.specs.declared.pte.Shape.TheVariants.{Invalid, Pointer, Leaf}
use Rattle.sv32_table.specs.declared.fault.WalkFault.TheVariants.{PageFault}
use Rattle.sv32_table.specs.Entry.{Entry, entry_of, word_of, shape_of, has_reserved, allows, touched, blank}
use Rattle.sv32_table.specs.Tables.{Walked, word_in, with_word, table_of, pointed_by, table_for, with_table, mapped, mapped_from, found, found_from, word_if_valid, marked, marked_from, walked, walked_from, walk_end, root_step, next_step, last_step, translated, permits, physical_of}
use Rattle.sv32_table.specs.EntryAt.{entry_in, entry_at, pointed, IsTree, walk_entry, walked_entry, valid_word, ChangesEntry, has_table, SameTables, AddsTable}
use Rattle.sv32_table.proofs.EntryWordLaws.{entry_of-word_of, word_of-entry_of, software_small}
use Rattle.sv32_table.proofs.WriteLaws.{table_for-pointed, entry_at-with_word, IsTree-with_word, few_tables, SameTables-with_word}
use Rattle.sv32_table.proofs.NewTableLaws.{AddsTable-with_table, IsTree-with_table, entry_at-with_table, pointed_within, pointed-with_table_same, length-with_table}

-- the table of a page is one behind the root
table_within : (tables : List (List ℕ)) (vpn table : ℕ) → table_for tables vpn ≡ Some table → table < length tables
table_within tables vpn table is = pointed_within tables (vpn / 1024) table (sym (table_for-pointed tables vpn) ∙ is)

table_below : (tables : List (List ℕ)) (vpn table : ℕ) → IsTree tables → vpn < 2 ^ 20 → table_for tables vpn ≡ Some table → 0 < table
table_below tables vpn table tree fits is = tree.below (vpn / 1024) table (omega arith) (sym (table_for-pointed tables vpn) ∙ is)

-- `map`
IsTree-mapped_from : (tables : List (List ℕ)) (vpn word : ℕ) (o : Option ℕ) → IsTree tables → vpn < 2 ^ 20 → table_for tables vpn ≡ o
    → IsTree (mapped_from tables vpn word o)
unfolding mapped_from
IsTree-mapped_from tables vpn word (Some table) tree fits is =
    IsTree-with_word tables table (vpn % 1024) word tree (table_below tables vpn table tree fits is) (table_within tables vpn table is)
IsTree-mapped_from tables vpn word None tree fits is =
    let few = few_tables tables tree in
    let none = sym (table_for-pointed tables vpn) ∙ is in
    let some : 0 < length tables = let rooted = tree.sized.rooted in omega arith in
    let long = length-with_table tables (vpn / 1024) in
    IsTree-with_word (with_table tables (vpn / 1024)) (length tables) (vpn % 1024) word
    (IsTree-with_table tables (vpn / 1024) tree few (omega arith) none) some (omega arith)

entry_at-mapped_from : (tables : List (List ℕ)) (vpn word : ℕ) (o : Option ℕ) → IsTree tables → vpn < 2 ^ 20 → table_for tables vpn ≡ o
    → ChangesEntry tables (mapped_from tables vpn word o) vpn (entry_of word)
unfolding mapped_from
entry_at-mapped_from tables vpn word (Some table) tree fits is q fits' =
    entry_at-with_word tables vpn table word q tree fits fits' (table_within tables vpn table is) is
entry_at-mapped_from tables vpn word None tree fits is q fits' =
    let few = few_tables tables tree in
    let index : vpn / 1024 < 1024 = omega arith in
    let new = with_table tables (vpn / 1024) in
    let long = length-with_table tables (vpn / 1024) in
    let there : table_for new vpn ≡ Some (length tables) = table_for-pointed new vpn ∙ pointed-with_table_same tables (vpn / 1024) tree.sized few index in
    let none = sym (table_for-pointed tables vpn) ∙ is in
    entry_at-with_word new vpn (length tables) word q (IsTree-with_table tables (vpn / 1024) tree few index none) fits fits' (omega arith) there
    ∙ ap (cond (q == vpn) (entry_of word)) (entry_at-with_table tables (vpn / 1024) q tree few index fits' none)

pub IsTree-mapped : (tables : List (List ℕ)) (vpn word : ℕ) → IsTree tables → vpn < 2 ^ 20 → IsTree (mapped tables vpn word)
unfolding mapped
IsTree-mapped tables vpn word tree fits = IsTree-mapped_from tables vpn word (table_for tables vpn) tree fits refl

pub entry_at-mapped : (tables : List (List ℕ)) (vpn word : ℕ) → IsTree tables → vpn < 2 ^ 20 → ChangesEntry tables (mapped tables vpn word) vpn (entry_of word)
unfolding mapped
entry_at-mapped tables vpn word tree fits = entry_at-mapped_from tables vpn word (table_for tables vpn) tree fits refl

AddsTable-mapped_from : (tables : List (List ℕ)) (vpn word : ℕ) (o : Option ℕ) → IsTree tables → vpn < 2 ^ 20 → table_for tables vpn ≡ o
    → AddsTable tables (mapped_from tables vpn word o) vpn
unfolding mapped_from has_table
AddsTable-mapped_from tables vpn word None tree fits is q inside =
    let some : 0 < length tables = let rooted = tree.sized.rooted in omega arith in
    SameTables-with_word (with_table tables (vpn / 1024)) (length tables) (vpn % 1024) word some q inside
    ∙ AddsTable-with_table tables vpn tree (few_tables tables tree) fits q inside
AddsTable-mapped_from tables vpn word (Some table) tree fits is q inside =
    SameTables-with_word tables table (vpn % 1024) word (table_below tables vpn table tree fits is) q inside ∙ by_region (q / 1024 == vpn / 1024) refl
  where
    or_false : (b : Bool) → b ≡ (b || false)
    or_false true = refl
    or_false false = refl

    by_region : (b : Bool) → (q / 1024 == vpn / 1024) ≡ b → is_some (table_for tables q) ≡ (is_some (table_for tables q) || b)
    by_region true here =
        let e : q / 1024 ≡ vpn / 1024 = grind (arith, nat_tests) in
        let there : table_for tables q ≡ Some table = table_for-pointed tables q ∙ ap (pointed tables) e ∙ sym (table_for-pointed tables vpn) ∙ is in
        rw there refl
    by_region false here = or_false (is_some (table_for tables q))

pub AddsTable-mapped : (tables : List (List ℕ)) (vpn word : ℕ) → IsTree tables → vpn < 2 ^ 20 → AddsTable tables (mapped tables vpn word) vpn
unfolding mapped
AddsTable-mapped tables vpn word tree fits = AddsTable-mapped_from tables vpn word (table_for tables vpn) tree fits refl

-- `unmap` and `test_and_clear_accessed`
changes_nothing : (tables : List (List ℕ)) (vpn : ℕ) (e : Entry) → e ≡ entry_at tables vpn → ChangesEntry tables tables vpn e
changes_nothing tables vpn e is q fits = by_page (q == vpn) refl
  where
    by_page : (b : Bool) → (q == vpn) ≡ b → entry_at tables q ≡ cond b e (entry_at tables q)
    by_page true page = let same : q ≡ vpn = grind (arith, nat_tests) in ap (entry_at tables) same ∙ sym is
    by_page false page = refl

IsTree-marked_from : (tables : List (List ℕ)) (vpn : ℕ) (change : Entry → ℕ) (o : Option ℕ) → IsTree tables → vpn < 2 ^ 20 → table_for tables vpn ≡ o
    → IsTree (marked_from tables vpn change o)
unfolding marked_from
IsTree-marked_from tables vpn change None tree fits is = tree
IsTree-marked_from tables vpn change (Some table) tree fits is = by_valid (entry_of (word_in tables table (vpn % 1024))).valid
  where
    by_valid : (b : Bool) → IsTree (cond b (with_word tables table (vpn % 1024) (change (entry_of (word_in tables table (vpn % 1024))))) tables)
    by_valid true = IsTree-with_word tables table (vpn % 1024) _ tree (table_below tables vpn table tree fits is) (table_within tables vpn table is)
    by_valid false = tree

pub IsTree-marked : (tables : List (List ℕ)) (vpn : ℕ) (change : Entry → ℕ) → IsTree tables → vpn < 2 ^ 20 → IsTree (marked tables vpn change)
unfolding marked
IsTree-marked tables vpn change tree fits = IsTree-marked_from tables vpn change (table_for tables vpn) tree fits refl

entry_at-marked_from : (tables : List (List ℕ)) (vpn : ℕ) (change : Entry → ℕ) (o : Option ℕ) → IsTree tables → vpn < 2 ^ 20 → table_for tables vpn ≡ o
    → let e = entry_in tables vpn o in ChangesEntry tables (marked_from tables vpn change o) vpn (cond e.valid (entry_of (change e)) e)
unfolding marked_from entry_at entry_in
entry_at-marked_from tables vpn change None tree fits is = changes_nothing tables vpn blank (sym (ap (entry_in tables vpn) is))
entry_at-marked_from tables vpn change (Some table) tree fits is = by_valid e.valid
  where
    e : Entry
    e = entry_of (word_in tables table (vpn % 1024))

    by_valid : (b : Bool) → ChangesEntry tables (cond b (with_word tables table (vpn % 1024) (change e)) tables) vpn (cond b (entry_of (change e)) e)
    by_valid true = λ q fits'. entry_at-with_word tables vpn table (change e) q tree fits fits' (table_within tables vpn table is) is
    by_valid false = changes_nothing tables vpn e (sym (ap (entry_in tables vpn) is))

pub entry_at-marked : (tables : List (List ℕ)) (vpn : ℕ) (change : Entry → ℕ) → IsTree tables → vpn < 2 ^ 20
    → let e = entry_at tables vpn in ChangesEntry tables (marked tables vpn change) vpn (cond e.valid (entry_of (change e)) e)
unfolding marked entry_at
entry_at-marked tables vpn change tree fits = entry_at-marked_from tables vpn change (table_for tables vpn) tree fits refl

SameTables-marked_from : (tables : List (List ℕ)) (vpn : ℕ) (change : Entry → ℕ) (o : Option ℕ) → IsTree tables → vpn < 2 ^ 20 → table_for tables vpn ≡ o
    → SameTables tables (marked_from tables vpn change o)
unfolding marked_from
SameTables-marked_from tables vpn change None tree fits is = λ q inside. refl
SameTables-marked_from tables vpn change (Some table) tree fits is = by_valid (entry_of (word_in tables table (vpn % 1024))).valid
  where
    by_valid : (b : Bool) → SameTables tables (cond b (with_word tables table (vpn % 1024) (change (entry_of (word_in tables table (vpn % 1024))))) tables)
    by_valid true = SameTables-with_word tables table (vpn % 1024) _ (table_below tables vpn table tree fits is)
    by_valid false = λ q inside. refl

pub SameTables-marked : (tables : List (List ℕ)) (vpn : ℕ) (change : Entry → ℕ) → IsTree tables → vpn < 2 ^ 20 → SameTables tables (marked tables vpn change)
unfolding marked
SameTables-marked tables vpn change tree fits = SameTables-marked_from tables vpn change (table_for tables vpn) tree fits refl

-- what `unmap` answers
found_by : (word : ℕ) (b : Bool) → word_if_valid word b ≡ cond b (Some (record { 0 = word_of (entry_of word) })) None
unfolding word_if_valid
found_by word true = ap (λ w. let pte : Pte = record { 0 = w } in let o : Option Pte = Some pte in o) (sym (word_of-entry_of word))
found_by word false = refl

pub found-entry_at : (tables : List (List ℕ)) (vpn : ℕ) → found tables vpn ≡ valid_word (entry_at tables vpn)
unfolding found found_from entry_at entry_in valid_word
found-entry_at tables vpn = by_table (table_for tables vpn)
  where
    by_table : (o : Option ℕ) → found_from tables vpn o ≡ cond (entry_in tables vpn o).valid (Some (record { 0 = word_of (entry_in tables vpn o) })) None
    by_table None = refl
    by_table (Some table) = found_by (word_in tables table (vpn % 1024)) (entry_of (word_in tables table (vpn % 1024))).valid

entry_at_in : (tables : List (List ℕ)) (vpn table : ℕ) → table_for tables vpn ≡ Some table → entry_at tables vpn ≡ entry_of (word_in tables table (vpn % 1024))
unfolding entry_at entry_in
entry_at_in tables vpn table is = rw is refl

entry_at_none : (tables : List (List ℕ)) (vpn : ℕ) → table_for tables vpn ≡ None → entry_at tables vpn ≡ blank
unfolding entry_at entry_in
entry_at_none tables vpn is = rw is refl

touched_small : (access : Access) (word : ℕ) → (touched access (entry_of word)).software < 4
unfolding touched
touched_small Fetch word = software_small word
touched_small Load word = software_small word
touched_small Store word = software_small word

-- a walk for a page with this entry gives this, keeps the tree and which pages have a table, and changes the page's entry alone
abbrev pub WalksBy : List (List ℕ) → ℕ → Access → Entry → Walked → Type 0
WalksBy tables address access e walk =
    (walk.0 ≡ walk_entry e address access) × (IsTree walk.1) × (ChangesEntry tables walk.1 (address / 0x1000) (walked_entry e access)) × SameTables tables walk.1

-- steps 5 to 8, over the two tests
leaf_walks : (tables : List (List ℕ)) (address : ℕ) (access : Access) (table : ℕ) → IsTree tables → address < 2 ^ 32 → table_for tables (address / 0x1000) ≡ Some table
    → let e = entry_of (word_in tables table (address / 0x1000 % 1024)) in (shape : Shape) → shape_of e ≡ shape
    → WalksBy tables address access e (walked_from tables address access (last_step table (address / 0x1000 % 1024) shape))
unfolding walked_from last_step translated permits physical_of walk_entry walked_entry
leaf_walks tables address access table tree fits is shape shaped = by_shape shape shaped (allows access e) refl
  where
    vpn : ℕ
    vpn = address / 0x1000

    e : Entry
    e = entry_of (word_in tables table (vpn % 1024))

    here : e ≡ entry_at tables vpn
    here = sym (entry_at_in tables vpn table is)

    by_shape : (shape : Shape) → shape_of e ≡ shape → (b : Bool) → allows access e ≡ b
        → WalksBy tables address access e (walked_from tables address access (last_step table (vpn % 1024) shape))
    by_shape Invalid shaped b allowed = rw shaped (refl, tree, changes_nothing tables vpn e here, (λ q inside. refl))
    by_shape Pointer shaped b allowed = rw shaped (refl, tree, changes_nothing tables vpn e here, (λ q inside. refl))
    by_shape Leaf shaped false allowed = rw (shaped, allowed) (refl, tree, changes_nothing tables vpn e here, (λ q inside. refl))
    by_shape Leaf shaped true allowed =
        let same = entry_of-word_of (touched access e) (touched_small access (word_in tables table (vpn % 1024))) in
        rw (shaped, allowed) (
          refl,
          IsTree-with_word tables table (vpn % 1024) _ tree (table_below tables vpn table tree (omega arith) is) (table_within tables vpn table is),
          (λ q fits'. entry_at-with_word tables vpn table (word_of (touched access e)) q tree (omega arith) fits' (table_within tables vpn table is) is
              ∙ ap (λ (x : Entry). cond (q == vpn) x (entry_at tables q)) same),
          SameTables-with_word tables table (vpn % 1024) _ (table_below tables vpn table tree (omega arith) is),
        )

-- a root word that points to a table leads a walk there
root_step-pointed : (tables : List (List ℕ)) (address : ℕ) (root : Entry) (shape : Shape) (table : ℕ) → pointed_by (length tables) root shape ≡ Some table
    → root_step tables address root shape ≡ next_step tables (address / 0x1000 % 1024) (Some table)
unfolding pointed_by root_step
root_step-pointed tables address root Invalid table is = cc
root_step-pointed tables address root Leaf table is = cc
root_step-pointed tables address root Pointer table is = by_reserved (has_reserved root) is
  where
    by_reserved : (b : Bool) → cond b None (table_of (length tables) root.ppn) ≡ Some table
        → cond b (Err PageFault) (next_step tables (address / 0x1000 % 1024) (table_of (length tables) root.ppn)) ≡ next_step tables (address / 0x1000 % 1024) (Some table)
    by_reserved true is = cc
    by_reserved false is = ap (next_step tables (address / 0x1000 % 1024)) is

pointed_is : (tables : List (List ℕ)) (index table : ℕ) → pointed tables index ≡ Some table
    → let root = entry_of (word_in tables 0 index) in pointed_by (length tables) root (shape_of root) ≡ Some table
unfolding pointed
pointed_is tables index table is = is

-- a walk for a page with no table
none_walks : (tables : List (List ℕ)) (address : ℕ) (access : Access) → IsTree tables → address < 2 ^ 32 → table_for tables (address / 0x1000) ≡ None
    → WalksBy tables address access blank (walked tables address access)
unfolding walked walk_end walked_from root_step entry_of shape_of walk_entry walked_entry
none_walks tables address access tree fits is =
    let region : address / 0x1000 / 1024 ≡ address / 0x400000 = omega arith in
    let none : pointed tables (address / 0x400000) ≡ None = ap (pointed tables) (sym region) ∙ sym (table_for-pointed tables (address / 0x1000)) ∙ is in
    let zero_word = tree.empty (address / 0x400000) (omega arith) none in
    rw zero_word (refl, tree, changes_nothing tables (address / 0x1000) blank (sym (entry_at_none tables (address / 0x1000) is)), (λ q inside. refl))

-- and for one with a table
some_walks : (tables : List (List ℕ)) (address : ℕ) (access : Access) (table : ℕ) → IsTree tables → address < 2 ^ 32 → table_for tables (address / 0x1000) ≡ Some table
    → WalksBy tables address access (entry_of (word_in tables table (address / 0x1000 % 1024))) (walked tables address access)
unfolding walked walk_end next_step
some_walks tables address access table tree fits is =
    let region : address / 0x1000 / 1024 ≡ address / 0x400000 = omega arith in
    let some : pointed tables (address / 0x400000) ≡ Some table = ap (pointed tables) (sym region) ∙ sym (table_for-pointed tables (address / 0x1000)) ∙ is in
    let root = entry_of (word_in tables 0 (address / 0x400000)) in
    let step = root_step-pointed tables address root (shape_of root) table (pointed_is tables (address / 0x400000) table some) in
    rw step (leaf_walks tables address access table tree fits is _ refl)

-- `walk`
pub walk_by_entry : (tables : List (List ℕ)) (address : ℕ) (access : Access) → IsTree tables → address < 2 ^ 32
    → WalksBy tables address access (entry_at tables (address / 0x1000)) (walked tables address access)
walk_by_entry tables address access tree fits = by_table (table_for tables (address / 0x1000)) refl
  where
    by_table : (o : Option ℕ) → table_for tables (address / 0x1000) ≡ o
        → WalksBy tables address access (entry_at tables (address / 0x1000)) (walked tables address access)
    by_table None is = rw (entry_at_none tables (address / 0x1000) is) (none_walks tables address access tree fits is)
    by_table (Some table) is = rw (entry_at_in tables (address / 0x1000) table is) (some_walks tables address access table tree fits is)
