-- What a new table changes: the root word that points to it then, and no page's entry.
use Rattle.std.proofs.Common.{◌≡◌, ℕ, ◌+◌, ◌-◌, ◌/◌, ◌%◌, ◌^◌, ◌<◌, ◌≤◌, Bool, true, false, cond, refl, sym, ap, ◌∙◌, arith, List, [], ◌∷◌, ◌++◌, length, get_or, Option, Some, None, ◌==◌, nat_le, nat_lt, ◌&&◌, ◌||◌, length-append}
use Rattle.std.specs.Prelude.{is_some}
use Rattle.std.proofs.Math.ListN.{get_or-append}
use Rattle.std.proofs.Math.Seq.{get_or-append_seam}
use Rattle.std.proofs.lemmas.List.{get_or-replicate, length-replicate}
use Rattle.std.proofs.lemmas.Bool.Decides.{nat_tests}
use Rattle.sv32_table.specs.declared.pte.Shape.{Shape}
use Rattle.sv32_table.specs.declared.pte.Shape.TheVariants.{Invalid, Pointer, Leaf}
use Rattle.sv32_table.specs.Entry.{Entry, entry_of, word_of, shape_of, has_reserved, blank, pointer_entry}
use Rattle.sv32_table.specs.Tables.{IsSized, word_in, with_word, table_of, pointed_by, table_for, zero_table, with_table}
use Rattle.sv32_table.specs.EntryAt.{entry_in, entry_at, pointed, IsTree, has_table, AddsTable}
use Rattle.sv32_table.proofs.EntryWordLaws.{entry_of-word_of}
use Rattle.sv32_table.proofs.WriteLaws.{pointers_below-more, length-with_word, word_in-with_word_same, word_in-with_word_index, word_in-with_word_table, IsSized-with_word, table_for-pointed}

abbrev grown : List (List ℕ) → List (List ℕ)
grown tables = tables ++ zero_table ∷ []

length-zero_table : length zero_table ≡ 1024
unfolding zero_table
length-zero_table = length-replicate {A = ℕ} 1024 0

length-grown : (tables : List (List ℕ)) → length (grown tables) ≡ length tables + 1
length-grown tables = length-append tables (zero_table ∷ [])

-- the words of the tables that were there, and of the new one
word_in-grown : (tables : List (List ℕ)) (k j : ℕ) → k < length tables → word_in (grown tables) k j ≡ word_in tables k j
unfolding word_in
word_in-grown tables k j within = ap (λ t. get_or t j 0) (get_or-append tables (zero_table ∷ []) [] k within)

word_in-new : (tables : List (List ℕ)) (j : ℕ) → j < 1024 → word_in (grown tables) (length tables) j ≡ 0
unfolding word_in zero_table
word_in-new tables j small = ap (λ t. get_or t j 0) (get_or-append_seam tables zero_table [] []) ∙ get_or-replicate {A = ℕ} 1024 j 0 0 small

IsSized-grown : (tables : List (List ℕ)) → IsSized tables → length tables < 0x200000 → IsSized (grown tables)
IsSized-grown tables sized few =
    let long = length-grown tables in
    record {
      rooted = omega arith;
      few = omega arith;
      sized = λ k within. by_table k (omega arith) (nat_lt k (length tables)) refl;
    }
  where
    by_table : (k : ℕ) → k ≤ length tables → (b : Bool) → nat_lt k (length tables) ≡ b → length (get_or (grown tables) k []) ≡ 1024
    by_table k within true is =
        let inside : k < length tables = grind (arith, nat_tests) in
        ap length (get_or-append tables (zero_table ∷ []) [] k inside) ∙ sized.sized k inside
    by_table k within false is =
        let past : length tables ≤ k = grind (arith, nat_tests) in
        let last : k ≡ length tables = omega arith in
        ap (λ n. length (get_or (grown tables) n [])) last ∙ ap length (get_or-append_seam tables zero_table [] []) ∙ length-zero_table

-- the pointer to the new table leads there
pointed_by-pointer : (n : ℕ) → let e = pointer_entry (0x200000 + n) in pointed_by (n + 1) e (shape_of e) ≡ Some n
unfolding pointed_by pointer_entry shape_of has_reserved table_of
pointed_by-pointer n =
    let low : nat_le 0x200000 (0x200000 + n) ≡ true = grind (arith, nat_tests) in
    let back : 0x200000 + n - 0x200000 ≡ n = omega arith in
    let inside : nat_lt n (n + 1) ≡ true = grind (arith, nat_tests) in
    rw (low, back, inside) refl

pointer_small : (ppn : ℕ) → (pointer_entry ppn).software < 4
unfolding pointer_entry
pointer_small ppn = omega arith

-- with one table more, a root word that pointed to a table does so still
table_of-more : (n ppn k : ℕ) → table_of n ppn ≡ Some k → table_of (n + 1) ppn ≡ Some k
unfolding table_of
table_of-more n ppn k is = by_tests (nat_le 0x200000 ppn) (nat_lt (ppn - 0x200000) n) refl is
  where
    by_tests : (low inside : Bool) → nat_lt (ppn - 0x200000) n ≡ inside → cond (low && inside) (Some (ppn - 0x200000)) None ≡ Some k
        → cond (low && nat_lt (ppn - 0x200000) (n + 1)) (Some (ppn - 0x200000)) None ≡ Some k
    by_tests true true is found =
        let more : nat_lt (ppn - 0x200000) (n + 1) ≡ true = grind (arith, nat_tests) in
        rw more found
    by_tests true false is found = cc
    by_tests false inside is found = cc

pub table_of-within : (n ppn k : ℕ) → table_of n ppn ≡ Some k → k < n
unfolding table_of
table_of-within n ppn k is = by_tests (nat_le 0x200000 ppn) (nat_lt (ppn - 0x200000) n) refl is
  where
    by_tests : (low inside : Bool) → nat_lt (ppn - 0x200000) n ≡ inside → cond (low && inside) (Some (ppn - 0x200000)) None ≡ Some k → k < n
    by_tests true true is found =
        let e : ppn - 0x200000 ≡ k = cc in
        let less : ppn - 0x200000 < n = grind (arith, nat_tests) in
        omega arith
    by_tests true false is found = cc
    by_tests false inside is found = cc

pointed_by-more : (n : ℕ) (e : Entry) (shape : Shape) (k : ℕ) → pointed_by n e shape ≡ Some k → pointed_by (n + 1) e shape ≡ Some k
unfolding pointed_by
pointed_by-more n e Invalid k is = cc
pointed_by-more n e Leaf k is = cc
pointed_by-more n e Pointer k is = by_reserved (has_reserved e) is
  where
    by_reserved : (b : Bool) → cond b None (table_of n e.ppn) ≡ Some k → cond b None (table_of (n + 1) e.ppn) ≡ Some k
    by_reserved true is = cc
    by_reserved false is = table_of-more n e.ppn k is

pub pointed_by-within : (n : ℕ) (e : Entry) (shape : Shape) (k : ℕ) → pointed_by n e shape ≡ Some k → k < n
unfolding pointed_by
pointed_by-within n e Invalid k is = cc
pointed_by-within n e Leaf k is = cc
pointed_by-within n e Pointer k is = by_reserved (has_reserved e) is
  where
    by_reserved : (b : Bool) → cond b None (table_of n e.ppn) ≡ Some k → k < n
    by_reserved true is = cc
    by_reserved false is = table_of-within n e.ppn k is

pointed_by-zero : (n : ℕ) → pointed_by n (entry_of 0) (shape_of (entry_of 0)) ≡ None
unfolding pointed_by entry_of shape_of
pointed_by-zero n = refl

entry_of-zero : entry_of 0 ≡ blank
unfolding entry_of
entry_of-zero = refl

pub pointed_within : (tables : List (List ℕ)) (j table : ℕ) → pointed tables j ≡ Some table → table < length tables
unfolding pointed
pointed_within tables j table is = pointed_by-within (length tables) _ _ table is

-- the root word points to the new table, and the other root words to what they did
pub pointed-with_table_same : (tables : List (List ℕ)) (index : ℕ) → IsSized tables → length tables < 0x200000 → index < 1024
    → pointed (with_table tables index) index ≡ Some (length tables)
unfolding pointed with_table
pointed-with_table_same tables index sized few small =
    let n = length tables in
    let p = word_of (pointer_entry (0x200000 + n)) in
    let some = sized.rooted in
    let long = length-grown tables in
    let count : length (with_word (grown tables) 0 index p) ≡ n + 1 = length-with_word (grown tables) 0 index p ∙ long in
    let word = word_in-with_word_same (grown tables) 0 index p (IsSized-grown tables sized few) (omega arith) small in
    let back = entry_of-word_of (pointer_entry (0x200000 + n)) (pointer_small (0x200000 + n)) in
    rw (count, word, back) (pointed_by-pointer n)

pub word_in-with_table_root : (tables : List (List ℕ)) (index j : ℕ) → IsSized tables → (j ≡ index → ⊥)
    → word_in (with_table tables index) 0 j ≡ word_in tables 0 j
unfolding with_table
word_in-with_table_root tables index j sized apart =
    let some = sized.rooted in
    let long = length-grown tables in
    word_in-with_word_index (grown tables) 0 index (word_of (pointer_entry (0x200000 + length tables))) j (omega arith) apart
    ∙ word_in-grown tables 0 j (omega arith)

pub length-with_table : (tables : List (List ℕ)) (index : ℕ) → length (with_table tables index) ≡ length tables + 1
unfolding with_table
length-with_table tables index = length-with_word (grown tables) 0 index _ ∙ length-grown tables

pub word_in-with_table : (tables : List (List ℕ)) (index k j : ℕ) → 0 < k → k < length tables → word_in (with_table tables index) k j ≡ word_in tables k j
unfolding with_table
word_in-with_table tables index k j below within =
    word_in-with_word_table (grown tables) 0 index _ k j (λ e. omega arith) ∙ word_in-grown tables k j within

pub word_in-with_table_new : (tables : List (List ℕ)) (index j : ℕ) → 0 < length tables → j < 1024 → word_in (with_table tables index) (length tables) j ≡ 0
unfolding with_table
word_in-with_table_new tables index j some small =
    word_in-with_word_table (grown tables) 0 index _ (length tables) j (λ e. omega arith) ∙ word_in-new tables j small

pub IsSized-with_table : (tables : List (List ℕ)) (index : ℕ) → IsSized tables → length tables < 0x200000 → IsSized (with_table tables index)
unfolding with_table
IsSized-with_table tables index sized few =
    let long = length-grown tables in
    IsSized-with_word (grown tables) 0 index _ (IsSized-grown tables sized few) (omega arith)

pub pointed-with_table_other : (tables : List (List ℕ)) (index j : ℕ) → IsTree tables → length tables < 0x200000 → j < 1024 → (j ≡ index → ⊥)
    → pointed (with_table tables index) j ≡ pointed tables j
unfolding pointed
pointed-with_table_other tables index j tree few small apart =
    let count = length-with_table tables index in
    let same = word_in-with_table_root tables index j tree.sized apart in
    rw (count, same) (by_root (pointed_by n (entry_of w) (shape_of (entry_of w))) refl)
  where
    n : ℕ
    n = length tables

    w : ℕ
    w = word_in tables 0 j

    by_root : (o : Option ℕ) → pointed_by n (entry_of w) (shape_of (entry_of w)) ≡ o
        → pointed_by (n + 1) (entry_of w) (shape_of (entry_of w)) ≡ o
    by_root (Some k) is = pointed_by-more n (entry_of w) (shape_of (entry_of w)) k is
    by_root None is = rw (tree.empty j small is) (pointed_by-zero (n + 1))

pub IsTree-with_table : (tables : List (List ℕ)) (index : ℕ) → IsTree tables → length tables < 0x200000 → index < 1024 → pointed tables index ≡ None → IsTree (with_table tables index)
IsTree-with_table tables index tree few small blank =
    record {
      sized = IsSized-with_table tables index tree.sized few;
      empty = λ j inside none. empty_by j inside none (j == index) refl;
      below = λ j table inside is. below_by j table inside is (j == index) refl;
      apart = λ j j' table inside inside' is is'. apart_by j j' table inside inside' is is' (j == index) refl (j' == index) refl;
      reached =
          length-with_table tables index ∙ ap (λ n. n + 1) (tree.reached ∙ sym (pointers_below-more tables (with_table tables index) 1024 index (length tables) small blank new other));
    }
  where
    new : pointed (with_table tables index) index ≡ Some (length tables)
    new = pointed-with_table_same tables index tree.sized few small

    other : (j : ℕ) → j < 1024 → (j ≡ index → ⊥) → pointed (with_table tables index) j ≡ pointed tables j
    other j inside apart = pointed-with_table_other tables index j tree few inside apart

    some : 0 < length tables
    some = let rooted = tree.sized.rooted in omega arith

    is_new : (j table : ℕ) → j ≡ index → pointed (with_table tables index) j ≡ Some table → table ≡ length tables
    is_new j table e is =
        let both : Some table ≡ Some (length tables) = sym is ∙ ap (pointed (with_table tables index)) e ∙ new in
        cc

    within : (j table : ℕ) → pointed tables j ≡ Some table → table < length tables
    within j table is = pointed_within tables j table is

    empty_by : (j : ℕ) → j < 1024 → pointed (with_table tables index) j ≡ None → (b : Bool) → (j == index) ≡ b → word_in (with_table tables index) 0 j ≡ 0
    empty_by j inside none true here =
        let e : j ≡ index = grind (arith, nat_tests) in
        let clash : ◌≡◌ {A = Option ℕ} (Some (length tables)) None = sym new ∙ ap (pointed (with_table tables index)) (sym e) ∙ none in
        cc
    empty_by j inside none false here =
        let e : j ≡ index → ⊥ = grind (arith, nat_tests) in
        word_in-with_table_root tables index j tree.sized e ∙ tree.empty j inside (sym (other j inside e) ∙ none)

    below_by : (j table : ℕ) → j < 1024 → pointed (with_table tables index) j ≡ Some table → (b : Bool) → (j == index) ≡ b → 0 < table
    below_by j table inside is true here =
        let e : j ≡ index = grind (arith, nat_tests) in
        let last = is_new j table e is in
        let rooted = some in
        omega arith
    below_by j table inside is false here =
        let e : j ≡ index → ⊥ = grind (arith, nat_tests) in
        tree.below j table inside (sym (other j inside e) ∙ is)

    apart_by : (j j' table : ℕ) → j < 1024 → j' < 1024 → pointed (with_table tables index) j ≡ Some table → pointed (with_table tables index) j' ≡ Some table
        → (b : Bool) → (j == index) ≡ b → (b' : Bool) → (j' == index) ≡ b' → j ≡ j'
    apart_by j j' table inside inside' is is' true here true here' = grind (arith, nat_tests)
    apart_by j j' table inside inside' is is' true here false here' =
        let e : j ≡ index = grind (arith, nat_tests) in
        let e' : j' ≡ index → ⊥ = grind (arith, nat_tests) in
        let last = is_new j table e is in
        let old = within j' table (sym (other j' inside' e') ∙ is') in
        absurd (omega arith)
    apart_by j j' table inside inside' is is' false here true here' =
        let e : j ≡ index → ⊥ = grind (arith, nat_tests) in
        let e' : j' ≡ index = grind (arith, nat_tests) in
        let last = is_new j' table e' is' in
        let old = within j table (sym (other j inside e) ∙ is) in
        absurd (omega arith)
    apart_by j j' table inside inside' is is' false here false here' =
        let e : j ≡ index → ⊥ = grind (arith, nat_tests) in
        let e' : j' ≡ index → ⊥ = grind (arith, nat_tests) in
        tree.apart j j' table inside inside' (sym (other j inside e) ∙ is) (sym (other j' inside' e') ∙ is')

-- the pages of the 4 MiB have a table then, and the others what they had
pub AddsTable-with_table : (tables : List (List ℕ)) (vpn : ℕ) → IsTree tables → length tables < 0x200000 → vpn < 2 ^ 20 → AddsTable tables (with_table tables (vpn / 1024)) vpn
unfolding has_table
AddsTable-with_table tables vpn tree few fits q inside = by_region (q / 1024 == vpn / 1024) refl
  where
    new : List (List ℕ)
    new = with_table tables (vpn / 1024)

    or_true : (b : Bool) → true ≡ (b || true)
    or_true true = refl
    or_true false = refl

    or_false : (b : Bool) → b ≡ (b || false)
    or_false true = refl
    or_false false = refl

    by_region : (b : Bool) → (q / 1024 == vpn / 1024) ≡ b → is_some (table_for new q) ≡ (is_some (table_for tables q) || b)
    by_region true here =
        let e : q / 1024 ≡ vpn / 1024 = grind (arith, nat_tests) in
        let there : table_for new q ≡ Some (length tables) =
        table_for-pointed new q ∙ ap (pointed new) e ∙ pointed-with_table_same tables (vpn / 1024) tree.sized few (omega arith) in
        ap is_some there ∙ or_true (is_some (table_for tables q))
    by_region false here =
        let e : q / 1024 ≡ vpn / 1024 → ⊥ = grind (arith, nat_tests) in
        ap is_some (table_for-pointed new q ∙ pointed-with_table_other tables (vpn / 1024) (q / 1024) tree few (omega arith) e ∙ sym (table_for-pointed tables q))
        ∙ or_false (is_some (table_for tables q))

-- no page's entry changes
pub entry_at-with_table : (tables : List (List ℕ)) (index q : ℕ) → IsTree tables → length tables < 0x200000 → index < 1024 → q < 2 ^ 20
    → pointed tables index ≡ None → entry_at (with_table tables index) q ≡ entry_at tables q
unfolding entry_at entry_in
entry_at-with_table tables index q tree few small fits none =
    by_region (q / 1024 == index) refl
  where
    some : 0 < length tables
    some = let rooted = tree.sized.rooted in omega arith

    by_table : (o : Option ℕ) → table_for tables q ≡ o → entry_in (with_table tables index) q o ≡ entry_in tables q o
    by_table None is = refl
    by_table (Some k) is =
        let there = sym (table_for-pointed tables q) ∙ is in
        let below = tree.below (q / 1024) k (omega arith) there in
        ap entry_of (word_in-with_table tables index k (q % 1024) below (pointed_within tables (q / 1024) k there))

    by_region : (b : Bool) → (q / 1024 == index) ≡ b → entry_in (with_table tables index) q (table_for (with_table tables index) q) ≡ entry_in tables q (table_for tables q)
    by_region true here =
        let e : q / 1024 ≡ index = grind (arith, nat_tests) in
        let new : table_for (with_table tables index) q ≡ Some (length tables) =
        table_for-pointed (with_table tables index) q ∙ ap (pointed (with_table tables index)) e ∙ pointed-with_table_same tables index tree.sized few small in
        let old : table_for tables q ≡ None = table_for-pointed tables q ∙ ap (pointed tables) e ∙ none in
        rw (new, old) (ap entry_of (word_in-with_table_new tables index (q % 1024) some (omega arith)) ∙ entry_of-zero)
    by_region false here =
        let e : q / 1024 ≡ index → ⊥ = grind (arith, nat_tests) in
        let same : table_for (with_table tables index) q ≡ table_for tables q =
        table_for-pointed (with_table tables index) q ∙ pointed-with_table_other tables index (q / 1024) tree few (omega arith) e ∙ sym (table_for-pointed tables q) in
        ap (entry_in (with_table tables index) q) same ∙ by_table (table_for tables q) refl
