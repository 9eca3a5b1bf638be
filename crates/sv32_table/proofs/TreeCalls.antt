-- What the calls of `Tables` do to tables that form a tree, as `PageTables` cites it.
use Rattle.std.proofs.Common.{◌≡◌, ℕ, ◌+◌, ◌/◌, ◌%◌, ◌^◌, ◌<◌, ◌==◌, ◌||◌, ◌&&◌, Bool, true, false, cond, refl, sym, ap, ◌∙◌, subst, arith, lit≤, List, [], ◌∷◌, length, Option, Some, None, option_map, Result, Ok, Err, OnOk, OnErr}
use Rattle.std.specs.Prelude.{IfOk, is_some, not, ◌*◌}
use Rattle.std.specs.Result.{result_map_both}
use Rattle.std.proofs.lemmas.Bool.Decides.{nat_tests}
use Rattle.std.proofs.lemmas.List.{get_or-replicate, length-replicate}
use Rattle.page_memory.specs.declared.words.Access.{Access}
use Rattle.page_memory.specs.declared.words.Access.TheVariants.{Fetch, Load, Store}
use Rattle.sv32_table.specs.declared.fault.WalkFault.TheVariants.{PageFault}
use Rattle.sv32_table.specs.declared.pte.Pte.{Pte}
use Rattle.sv32_table.specs.declared.pte.Shape.TheVariants.{Invalid, Leaf, Pointer}
use Rattle.sv32_table.specs.declared.fault.MapFault.{MapFault}
use Rattle.sv32_table.specs.declared.fault.WalkFault.{WalkFault}
use Rattle.sv32_table.specs.declared.walk.Leaf.{Leaf as Translation}
use Rattle.page_memory.specs.declared.rights.Rights.{Rights}
use Rattle.sv32_table.specs.Entry.{Entry, allows, entry_of, word_of, shape_of, touched, blank, leaf_entry, page_entry}
use Rattle.sv32_table.specs.Tables.{IsSized, root_page, word_in, table_for, zero_table, pointed_by, mapped, marked, found, walked}
use Rattle.sv32_table.specs.EntryAt.{is_leaf, entry_in, entry_at, pointed, IsTree, walk_entry, walked_entry, unmapped_entry, unaccessed_entry, undirtied_entry, valid_word, accessed_of, dirty_mark_of, dirty_of, ChangesEntry, has_table, SameTables, AddsTable}
use Rattle.sv32_table.proofs.EntryWordLaws.{entry_of-word_of, software_small}
use Rattle.sv32_table.specs.Leading.{walk_leads, LeadsByEntry}
use Rattle.sv32_table.specs.TranslationProcess.{Success, Words, FollowsProcess, IsTranslation, physical_words, translate}
use Rattle.sv32_table.proofs.Translation.{walk_is_translation}
use Rattle.sv32_table.proofs.WriteLaws.{table_for-pointed, few_tables, pointers_below-none}
use Rattle.sv32_table.proofs.EntryChangeLaws.{AddsTable-mapped, SameTables-marked, IsTree-mapped, entry_at-mapped, IsTree-marked, entry_at-marked, found-entry_at, walk_by_entry}

-- the root alone
root_word : (index : ℕ) → index < 1024 → word_in (zero_table ∷ []) 0 index ≡ 0
unfolding word_in zero_table
root_word index small = get_or-replicate {A = ℕ} 1024 index 0 0 small

root_pointed : (index : ℕ) → index < 1024 → pointed (zero_table ∷ []) index ≡ None
unfolding pointed pointed_by entry_of shape_of
root_pointed index small = rw (root_word index small) refl

root_sized : IsSized (zero_table ∷ [])
unfolding zero_table
root_sized =
    record {
      rooted = omega arith;
      few = lit≤ tt;
      sized = λ table within. let first : table ≡ 0 = omega arith in rw first (length-replicate {A = ℕ} 1024 0);
    }

pub IsTree_new : (tables : List (List ℕ)) → tables ≡ zero_table ∷ [] → IsTree tables
IsTree_new tables is = rw is root
  where
    root : IsTree (zero_table ∷ [])
    root =
        record {
          sized = root_sized;
          empty = λ index small none. root_word index small;
          below = λ index table small is. let clash : ◌≡◌ {A = Option ℕ} (Some table) None = sym is ∙ root_pointed index small in cc;
          apart = λ index index' table small small' is is'. let clash : ◌≡◌ {A = Option ℕ} (Some table) None = sym is ∙ root_pointed index small in cc;
          reached = ap (λ n. n + 1) (sym (pointers_below-none (zero_table ∷ []) 1024 (λ j below. root_pointed j below)));
        }

pub entry_at_new : (tables : List (List ℕ)) → tables ≡ zero_table ∷ [] → (q : ℕ) → q < 2 ^ 20 → entry_at tables q ≡ blank
unfolding entry_at entry_in
entry_at_new tables is q fits =
    let none : table_for (zero_table ∷ []) q ≡ None = table_for-pointed (zero_table ∷ []) q ∙ root_pointed (q / 1024) (omega arith) in
    rw (is, none) refl

pub no_table_new : (tables : List (List ℕ)) → tables ≡ zero_table ∷ [] → (q : ℕ) → q < 2 ^ 20 → has_table tables q ≡ false
unfolding has_table
no_table_new tables is q fits =
    let none : table_for (zero_table ∷ []) q ≡ None = table_for-pointed (zero_table ∷ []) q ∙ root_pointed (q / 1024) (omega arith) in
    rw (is, none) refl

-- `map` and `remap`
pub tree_after_map : (old new : List (List ℕ)) (vpn word : ℕ) → IsTree old → vpn < 2 ^ 20 → new ≡ mapped old vpn word → IsTree new
tree_after_map old new vpn word tree fits is = rw is (IsTree-mapped old vpn word tree fits)

pub tables_after_map : (old new : List (List ℕ)) (vpn word : ℕ) → IsTree old → vpn < 2 ^ 20 → new ≡ mapped old vpn word → AddsTable old new vpn
tables_after_map old new vpn word tree fits is = rw is (AddsTable-mapped old vpn word tree fits)

leaf_small : (ppn : ℕ) (rights : Rights) (accessed : Bool) → (leaf_entry ppn rights accessed).software < 4
unfolding leaf_entry
leaf_small ppn rights accessed = omega arith

page_small : (ppn : ℕ) (rights : Rights) (accessed dirty : Bool) → (page_entry ppn rights accessed dirty).software < 4
unfolding page_entry leaf_entry
page_small ppn rights accessed dirty = omega arith

entries_after : (old new : List (List ℕ)) (vpn : ℕ) (e : Entry) → IsTree old → vpn < 2 ^ 20 → e.software < 4 → new ≡ mapped old vpn (word_of e) → ChangesEntry old new vpn e
entries_after old new vpn e tree fits small is =
    let back = entry_of-word_of e small in
    rw is (subst (λ (x : Entry). ChangesEntry old (mapped old vpn (word_of e)) vpn x) back (entry_at-mapped old vpn (word_of e) tree fits))

pub entries_after_map : (old new : List (List ℕ)) (vpn ppn : ℕ) (rights : Rights) (accessed : Bool) → IsTree old → vpn < 2 ^ 20
    → new ≡ mapped old vpn (word_of (leaf_entry ppn rights accessed)) → ChangesEntry old new vpn (leaf_entry ppn rights accessed)
entries_after_map old new vpn ppn rights accessed tree fits is =
    entries_after old new vpn (leaf_entry ppn rights accessed) tree fits (leaf_small ppn rights accessed) is

pub entries_after_remap : (old new : List (List ℕ)) (vpn ppn : ℕ) (rights : Rights) (accessed dirty : Bool) → IsTree old → vpn < 2 ^ 20
    → new ≡ mapped old vpn (word_of (page_entry ppn rights accessed dirty)) → ChangesEntry old new vpn (page_entry ppn rights accessed dirty)
entries_after_remap old new vpn ppn rights accessed dirty tree fits is =
    entries_after old new vpn (page_entry ppn rights accessed dirty) tree fits (page_small ppn rights accessed dirty) is

-- a page that has a table shares it with the pages of its 4 MiB
pub same_after_remap : (old new : List (List ℕ)) (vpn word : ℕ) → IsTree old → vpn < 2 ^ 20 → has_table old vpn ≡ true → new ≡ mapped old vpn word → SameTables old new
unfolding has_table
same_after_remap old new vpn word tree fits there is q inside =
    tables_after_map old new vpn word tree fits is q inside ∙ by_region (q / 1024 == vpn / 1024) refl
  where
    or_true : (b c : Bool) → b ≡ true → (b || c) ≡ b
    or_true b true is = rw is refl
    or_true b false is = rw is refl

    or_false : (b : Bool) → (b || false) ≡ b
    or_false true = refl
    or_false false = refl

    by_region : (b : Bool) → (q / 1024 == vpn / 1024) ≡ b → (is_some (table_for old q) || b) ≡ is_some (table_for old q)
    by_region true here =
        let e : q / 1024 ≡ vpn / 1024 = grind (arith, nat_tests) in
        let same : table_for old q ≡ table_for old vpn = table_for-pointed old q ∙ ap (pointed old) e ∙ sym (table_for-pointed old vpn) in
        or_true (is_some (table_for old q)) true (ap is_some same ∙ there)
    by_region false here = or_false (is_some (table_for old q))

-- `unmap`, `test_and_clear_accessed` and `clear_dirty`
pub tree_after_mark : (old new : List (List ℕ)) (vpn : ℕ) (change : Entry → ℕ) → IsTree old → vpn < 2 ^ 20 → new ≡ marked old vpn change → IsTree new
tree_after_mark old new vpn change tree fits is = rw is (IsTree-marked old vpn change tree fits)

pub entries_after_unmap : (old new : List (List ℕ)) (vpn : ℕ) → IsTree old → vpn < 2 ^ 20 → new ≡ marked old vpn (λ _. 0)
    → ChangesEntry old new vpn (unmapped_entry (entry_at old vpn))
unfolding unmapped_entry entry_of
entries_after_unmap old new vpn tree fits is = rw is (entry_at-marked old vpn (λ _. 0) tree fits)

entry_at_small : (tables : List (List ℕ)) (vpn : ℕ) → (entry_at tables vpn).software < 4
unfolding entry_at entry_in
entry_at_small tables vpn = by_table (table_for tables vpn)
  where
    by_table : (o : Option ℕ) → (entry_in tables vpn o).software < 4
    by_table None = omega arith
    by_table (Some table) = software_small (word_in tables table (vpn % 1024))

pub entries_after_clear : (old new : List (List ℕ)) (vpn : ℕ) → IsTree old → vpn < 2 ^ 20 → new ≡ marked old vpn (λ e. word_of (record e { accessed = false }))
    → ChangesEntry old new vpn (unaccessed_entry (entry_at old vpn))
unfolding unaccessed_entry
entries_after_clear old new vpn tree fits is =
    let e = entry_at old vpn in
    let clear : Entry = record e { accessed = false } in
    let back : entry_of (word_of clear) ≡ clear = entry_of-word_of clear (entry_at_small old vpn) in
    let change : Entry → ℕ = λ e. word_of (record e { accessed = false }) in
    rw is (subst (λ (x : Entry). ChangesEntry old (marked old vpn change) vpn (cond e.valid x e)) back (entry_at-marked old vpn change tree fits))

pub entries_after_clean : (old new : List (List ℕ)) (vpn : ℕ) → IsTree old → vpn < 2 ^ 20 → new ≡ marked old vpn (λ e. word_of (record e { dirty = false }))
    → ChangesEntry old new vpn (undirtied_entry (entry_at old vpn))
unfolding undirtied_entry
entries_after_clean old new vpn tree fits is =
    let e = entry_at old vpn in
    let clear : Entry = record e { dirty = false } in
    let back : entry_of (word_of clear) ≡ clear = entry_of-word_of clear (entry_at_small old vpn) in
    let change : Entry → ℕ = λ e. word_of (record e { dirty = false }) in
    rw is (subst (λ (x : Entry). ChangesEntry old (marked old vpn change) vpn (cond e.valid x e)) back (entry_at-marked old vpn change tree fits))

pub found_entry : (tables : List (List ℕ)) (vpn : ℕ) → found tables vpn ≡ valid_word (entry_at tables vpn)
found_entry tables vpn = found-entry_at tables vpn

pub accessed_found : (tables : List (List ℕ)) (vpn : ℕ)
    → option_map (λ (pte : Pte). (entry_of pte.0).accessed) (found tables vpn) ≡ accessed_of (entry_at tables vpn)
unfolding accessed_of valid_word
accessed_found tables vpn =
    ap (option_map (λ (pte : Pte). (entry_of pte.0).accessed)) (found-entry_at tables vpn) ∙ by_valid e.valid
  where
    e : Entry
    e = entry_at tables vpn

    by_valid : (b : Bool) → option_map (λ (pte : Pte). (entry_of pte.0).accessed) (cond b (Some (record { 0 = word_of e })) None) ≡ cond b (Some e.accessed) None
    by_valid true = ap (λ (x : Entry). Some x.accessed) (entry_of-word_of e (entry_at_small tables vpn))
    by_valid false = refl

pub dirty_mark_found : (tables : List (List ℕ)) (vpn : ℕ)
    → option_map (λ (pte : Pte). (entry_of pte.0).dirty) (found tables vpn) ≡ dirty_mark_of (entry_at tables vpn)
unfolding dirty_mark_of valid_word
dirty_mark_found tables vpn =
    ap (option_map (λ (pte : Pte). (entry_of pte.0).dirty)) (found-entry_at tables vpn) ∙ by_valid e.valid
  where
    e : Entry
    e = entry_at tables vpn

    by_valid : (b : Bool) → option_map (λ (pte : Pte). (entry_of pte.0).dirty) (cond b (Some (record { 0 = word_of e })) None) ≡ cond b (Some e.dirty) None
    by_valid true = ap (λ (x : Entry). Some x.dirty) (entry_of-word_of e (entry_at_small tables vpn))
    by_valid false = refl

-- `walk`
pub tree_after_walk : (old new : List (List ℕ)) (address : ℕ) (access : Access) → IsTree old → address < 2 ^ 32 → new ≡ (walked old address access).1 → IsTree new
tree_after_walk old new address access tree fits is = rw is ((walk_by_entry old address access tree fits).1)

pub answer_of_walk : (old : List (List ℕ)) (address : ℕ) (access : Access) (result : Result Translation WalkFault) → IsTree old → address < 2 ^ 32 → result ≡ (walked old address access).0
    → result ≡ walk_entry (entry_at old (address / 0x1000)) address access
answer_of_walk old address access result tree fits is = is ∙ (walk_by_entry old address access tree fits).0

pub entries_after_walk : (old new : List (List ℕ)) (address : ℕ) (access : Access) → IsTree old → address < 2 ^ 32 → new ≡ (walked old address access).1
    → ChangesEntry old new (address / 0x1000) (walked_entry (entry_at old (address / 0x1000)) access)
entries_after_walk old new address access tree fits is = rw is ((walk_by_entry old address access tree fits).2)

-- where walks lead
followed : (outcome : Result Success WalkFault) (old new : Words) (result : Result Translation WalkFault) → FollowsProcess outcome old result new
    → result_map_both (λ (success : Success). success.physical) (λ (fault : WalkFault). fault) outcome ≡ result_map_both (λ (leaf : Translation). leaf.physical) (λ (fault : WalkFault). fault) result
followed (Ok success) old new result follows = sym (ap (result_map_both (λ (leaf : Translation). leaf.physical) (λ (fault : WalkFault). fault)) follows.0)
followed (Err fault) old new result follows = sym (ap (result_map_both (λ (leaf : Translation). leaf.physical) (λ (fault : WalkFault). fault)) follows.0)

pub leads_by_entry : (tables : List (List ℕ)) → IsTree tables → LeadsByEntry tables
unfolding walk_leads IsTranslation
leads_by_entry tables tree address access fits =
    followed (translate (physical_words tables) root_page address access) (physical_words tables) (physical_words (walked tables address access).1) (walked tables address access).0 (walk_is_translation tables address access tree.sized fits)
    ∙ ap (result_map_both (λ (leaf : Translation). leaf.physical) (λ (fault : WalkFault). fault)) (walk_by_entry tables address access tree fits).0

-- which pages have a table stays
pub tables_after_mark : (old new : List (List ℕ)) (vpn : ℕ) (change : Entry → ℕ) → IsTree old → vpn < 2 ^ 20 → new ≡ marked old vpn change → SameTables old new
tables_after_mark old new vpn change tree fits is = rw is (SameTables-marked old vpn change tree fits)

pub tables_after_walk : (old new : List (List ℕ)) (address : ℕ) (access : Access) → IsTree old → address < 2 ^ 32 → new ≡ (walked old address access).1 → SameTables old new
tables_after_walk old new address access tree fits is = rw is ((walk_by_entry old address access tree fits).3)

-- a `map` keeps the tree, done or not; it is never refused for want of a number
pub tree_after_mapping : (old new : List (List ℕ)) (vpn word : ℕ) (result : Result Unit MapFault) → IsTree old → vpn < 2 ^ 20
    → OnOk result (new ≡ mapped old vpn word) → OnErr result (new ≡ old) → IsTree new
tree_after_mapping old new vpn word (Ok done) tree fits ok err = tree_after_map old new vpn word tree fits ok
tree_after_mapping old new vpn word (Err fault) tree fits ok err = rw err tree

pub never_too_many : (old : List (List ℕ)) → IsTree old → length old ≡ 0x200000 → ⊥
never_too_many old tree full = let few = few_tables old tree in omega arith

pub no_table : (old : List (List ℕ)) (vpn : ℕ) → table_for old vpn ≡ None → has_table old vpn ≡ false
unfolding has_table
no_table old vpn none = ap is_some none

-- whether a page's entry has D
pub dirty_found : (tables : List (List ℕ)) (vpn : ℕ) (pte : Pte) → valid_word (entry_at tables vpn) ≡ Some pte → (entry_of pte.0).dirty ≡ dirty_of (entry_at tables vpn)
unfolding dirty_of valid_word
dirty_found tables vpn pte found = by_valid e.valid found
  where
    e : Entry
    e = entry_at tables vpn

    by_valid : (b : Bool) → cond b (Some (record { 0 = word_of e })) None ≡ Some pte → (entry_of pte.0).dirty ≡ (b && e.dirty)
    by_valid true found =
        let same : word_of e ≡ pte.0 = cc in
        ap (λ w. (entry_of w).dirty) (sym same) ∙ ap (λ (x : Entry). x.dirty) (entry_of-word_of e (entry_at_small tables vpn))
    by_valid false found = cc

pub none_dirty : (tables : List (List ℕ)) (vpn : ℕ) → valid_word (entry_at tables vpn) ≡ None → dirty_of (entry_at tables vpn) ≡ false
unfolding dirty_of valid_word
none_dirty tables vpn none = by_valid e.valid none
  where
    e : Entry
    e = entry_at tables vpn

    by_valid : (b : Bool) → ◌≡◌ {A = Option Pte} (cond b (Some (record { 0 = word_of e })) None) None → (b && e.dirty) ≡ false
    by_valid true none = cc
    by_valid false none = refl

-- whether a page's entry has A
pub accessed_word : (tables : List (List ℕ)) (vpn : ℕ) (pte : Pte) → valid_word (entry_at tables vpn) ≡ Some pte → Some (entry_of pte.0).accessed ≡ accessed_of (entry_at tables vpn)
accessed_word tables vpn pte found =
    ap (option_map (λ (pte : Pte). (entry_of pte.0).accessed)) (sym found ∙ sym (found_entry tables vpn)) ∙ accessed_found tables vpn

pub none_accessed : (tables : List (List ℕ)) (vpn : ℕ) → valid_word (entry_at tables vpn) ≡ None → None ≡ accessed_of (entry_at tables vpn)
none_accessed tables vpn none =
    ap (option_map (λ (pte : Pte). (entry_of pte.0).accessed)) (sym none ∙ sym (found_entry tables vpn)) ∙ accessed_found tables vpn

-- what a walk's leaf says of D is what the page's entry says then
leaf_valid : (e : Entry) → is_leaf (shape_of e) ≡ true → e.valid ≡ true
unfolding shape_of
leaf_valid e is = by_valid e.valid is
  where
    by_valid : (b : Bool) → is_leaf (cond (not b || (e.write && not e.read)) Invalid (cond (e.read || e.execute) Leaf Pointer)) ≡ true → b ≡ true
    by_valid true is = refl
    by_valid false is = absurd (cc)

touched_by : (access : Access) (e : Entry) → e.software < 4 → e.valid ≡ true → (entry_of (word_of (touched access e))).dirty ≡ dirty_of (touched access e)
unfolding touched dirty_of
touched_by Fetch e small valid = ap (λ (x : Entry). x.dirty) (entry_of-word_of (record e { accessed = true }) small) ∙ ap (λ b. b && e.dirty) (sym valid)
touched_by Load e small valid = ap (λ (x : Entry). x.dirty) (entry_of-word_of (record e { accessed = true }) small) ∙ ap (λ b. b && e.dirty) (sym valid)
touched_by Store e small valid = ap (λ (x : Entry). x.dirty) (entry_of-word_of (record e { accessed = true; dirty = true }) small) ∙ ap (λ b. b && true) (sym valid)

both_hold : (a b : Bool) → (a && b) ≡ true → a ≡ true
both_hold true b is = refl
both_hold false b is = cc

walked_dirty : (e : Entry) (address : ℕ) (access : Access) (leaf : Translation) → e.software < 4 → walk_entry e address access ≡ Ok leaf → (entry_of leaf.pte.0).dirty ≡ dirty_of (walked_entry e access)
unfolding walk_entry walked_entry
walked_dirty e address access leaf small is = by_test (is_leaf (shape_of e) && allows access e) refl is
  where
    by_test : (b : Bool) → (is_leaf (shape_of e) && allows access e) ≡ b
        → cond b (Ok (record { pte = record { 0 = word_of (touched access e) }; physical = e.ppn * 0x1000 + address % 0x1000 })) (Err PageFault) ≡ Ok leaf
        → (entry_of leaf.pte.0).dirty ≡ dirty_of (cond b (touched access e) e)
    by_test true test found =
        let same : record { pte = record { 0 = word_of (touched access e) }; physical = e.ppn * 0x1000 + address % 0x1000 } ≡ leaf = cc in
        ap (λ (l : Translation). (entry_of l.pte.0).dirty) (sym same) ∙ touched_by access e small (leaf_valid e (both_hold (is_leaf (shape_of e)) (allows access e) test))
    by_test false test found = absurd (cc)

entry_software : (tables : List (List ℕ)) (vpn : ℕ) → (entry_at tables vpn).software < 4
unfolding entry_at entry_in
entry_software tables vpn = by_table (table_for tables vpn)
  where
    by_table : (o : Option ℕ) → (entry_in tables vpn o).software < 4
    by_table None = omega arith
    by_table (Some table) = software_small (word_in tables table (vpn % 1024))

pub leaf_dirty : (old new : List (List ℕ)) (address : ℕ) (access : Access) (result : Result Translation WalkFault) → address < 2 ^ 32 → result ≡ walk_entry (entry_at old (address / 0x1000)) address access
    → ChangesEntry old new (address / 0x1000) (walked_entry (entry_at old (address / 0x1000)) access)
    → IfOk result (λ leaf. (entry_of leaf.pte.0).dirty ≡ dirty_of (entry_at new (address / 0x1000)))
leaf_dirty old new address access (Err fault) fits is changes = tt
leaf_dirty old new address access (Ok leaf) fits is changes =
    let small : address / 0x1000 < 2 ^ 20 = omega arith in
    let test : (address / 0x1000 == address / 0x1000) ≡ true = grind (arith, nat_tests) in
    let now : entry_at new (address / 0x1000) ≡ walked_entry (entry_at old (address / 0x1000)) access =
    changes (address / 0x1000) small ∙ ap (λ b. cond b (walked_entry (entry_at old (address / 0x1000)) access) (entry_at old (address / 0x1000))) test
    in
    walked_dirty (entry_at old (address / 0x1000)) address access leaf (entry_software old (address / 0x1000)) (sym is) ∙ ap dirty_of (sym now)
