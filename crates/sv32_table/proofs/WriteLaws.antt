-- What writing one word changes: the words, the tables that root words point to, and the entries of pages.
use Rattle.std.proofs.Common.{◌≡◌, ℕ, zero, suc, ◌+◌, ◌/◌, ◌%◌, ◌^◌, ◌<◌, ◌≤◌, Bool, true, false, cond, refl, sym, ap, ◌∙◌, arith, List, [], length, get_or, set, Option, Some, None, ◌==◌, get_or-set_same, get_or-set_other}
use Rattle.std.specs.Prelude.{is_some}
use Rattle.std.proofs.Math.ListN.{length-set}
use Rattle.std.proofs.lemmas.Bool.Decides.{nat_tests}
use Rattle.sv32_table.specs.Entry.{entry_of, weigh}
use Rattle.sv32_table.specs.Tables.{IsSized, word_in, with_word, table_for}
use Rattle.sv32_table.specs.EntryAt.{entry_in, entry_at, pointed, pointers_below, IsTree, has_table, SameTables}

pub length-with_word : (tables : List (List ℕ)) (k i word : ℕ) → length (with_word tables k i word) ≡ length tables
unfolding with_word
length-with_word tables k i word = length-set tables k _

pub word_in-with_word_same : (tables : List (List ℕ)) (k i word : ℕ) → IsSized tables → k < length tables → i < 1024
    → word_in (with_word tables k i word) k i ≡ word
unfolding word_in with_word
word_in-with_word_same tables k i word sized within small =
    let long : length (get_or tables k []) ≡ 1024 = sized.sized k within in
    ap (λ t. get_or t i 0) (get_or-set_same tables k (set (get_or tables k []) i word) [] within)
    ∙ get_or-set_same (get_or tables k []) i word 0 (omega arith)

pub word_in-with_word_index : (tables : List (List ℕ)) (k i word j : ℕ) → k < length tables → (j ≡ i → ⊥)
    → word_in (with_word tables k i word) k j ≡ word_in tables k j
unfolding word_in with_word
word_in-with_word_index tables k i word j within apart =
    ap (λ t. get_or t j 0) (get_or-set_same tables k (set (get_or tables k []) i word) [] within)
    ∙ get_or-set_other (get_or tables k []) i j word 0 apart

pub word_in-with_word_table : (tables : List (List ℕ)) (k i word l j : ℕ) → (l ≡ k → ⊥) → word_in (with_word tables k i word) l j ≡ word_in tables l j
unfolding word_in with_word
word_in-with_word_table tables k i word l j apart = ap (λ t. get_or t j 0) (get_or-set_other tables k l (set (get_or tables k []) i word) [] apart)

pub IsSized-with_word : (tables : List (List ℕ)) (k i word : ℕ) → IsSized tables → k < length tables → IsSized (with_word tables k i word)
unfolding with_word
IsSized-with_word tables k i word sized within =
    let same = length-set tables k (set (get_or tables k []) i word) in
    let rooted = sized.rooted in
    let few = sized.few in
    record {
      rooted = omega arith;
      few = omega arith;
      sized = λ table below. by_table table (omega arith) (table == k) refl;
    }
  where
    by_table : (table : ℕ) → table < length tables → (b : Bool) → (table == k) ≡ b → length (get_or (set tables k (set (get_or tables k []) i word)) table []) ≡ 1024
    by_table table below true is =
        let e : table ≡ k = grind (arith, nat_tests) in
        let here = get_or-set_same tables k (set (get_or tables k []) i word) [] within in
        ap (λ n. length (get_or (set tables k (set (get_or tables k []) i word)) n [])) e ∙ ap length here
        ∙ length-set (get_or tables k []) i word ∙ sized.sized k within
    by_table table below false is =
        let e : table ≡ k → ⊥ = grind (arith, nat_tests) in
        ap length (get_or-set_other tables k table (set (get_or tables k []) i word) [] e) ∙ sized.sized table below

-- writes below the root leave what root words point to
pub pointed-with_word : (tables : List (List ℕ)) (k i word j : ℕ) → 0 < k → pointed (with_word tables k i word) j ≡ pointed tables j
unfolding pointed
pointed-with_word tables k i word j below =
    let count = length-with_word tables k i word in
    let same : word_in (with_word tables k i word) 0 j ≡ word_in tables 0 j = word_in-with_word_table tables k i word 0 j (λ e. omega arith) in
    rw (count, same) refl

-- the count of root words that point to tables
pub pointers_below-same : (old new : List (List ℕ)) (n : ℕ) → ((j : ℕ) → j < n → pointed new j ≡ pointed old j) → pointers_below new n ≡ pointers_below old n
unfolding pointers_below
pointers_below-same old new zero same = refl
pointers_below-same old new (suc n) same =
    let rest : pointers_below new n ≡ pointers_below old n = pointers_below-same old new n (λ j below. same j (omega arith)) in
    let here : pointed new n ≡ pointed old n = same n (omega arith) in
    rw (here, rest) refl

pub pointers_below-le : (tables : List (List ℕ)) (n : ℕ) → pointers_below tables n ≤ n
unfolding pointers_below
pointers_below-le tables zero = omega arith
pointers_below-le tables (suc n) =
    let rest = pointers_below-le tables n in
    let one = weigh_one (is_some (pointed tables n)) in
    omega arith
  where
    weigh_one : (b : Bool) → weigh b 1 ≤ 1
    weigh_one true = omega arith
    weigh_one false = omega arith

pub pointers_below-none : (tables : List (List ℕ)) (n : ℕ) → ((j : ℕ) → j < n → pointed tables j ≡ None) → pointers_below tables n ≡ 0
unfolding pointers_below
pointers_below-none tables zero none = refl
pointers_below-none tables (suc n) none =
    let rest : pointers_below tables n ≡ 0 = pointers_below-none tables n (λ j below. none j (omega arith)) in
    let here : pointed tables n ≡ None = none n (omega arith) in
    rw (here, rest) refl

-- one more where a root word comes to point to one
pub pointers_below-more : (old new : List (List ℕ)) (n index table : ℕ) → index < n → pointed old index ≡ None → pointed new index ≡ Some table
    → ((j : ℕ) → j < n → (j ≡ index → ⊥) → pointed new j ≡ pointed old j) → pointers_below new n ≡ pointers_below old n + 1
unfolding pointers_below
pointers_below-more old new zero index table inside none some same = absurd (omega arith)
pointers_below-more old new (suc n) index table inside none some same =
    by_last (n == index) refl (λ below. pointers_below-more old new n index table below none some (λ j less apart. same j (omega arith) apart))
  where
    by_last : (b : Bool) → (n == index) ≡ b → (index < n → pointers_below new n ≡ pointers_below old n + 1)
        → weigh (is_some (pointed new n)) 1 + pointers_below new n ≡ weigh (is_some (pointed old n)) 1 + pointers_below old n + 1
    by_last true test later =
        let e : n ≡ index = grind (arith, nat_tests) in
        let rest : pointers_below new n ≡ pointers_below old n = pointers_below-same old new n (λ j below. same j (omega arith) (λ is. omega arith)) in
        let was : pointed old n ≡ None = ap (pointed old) e ∙ none in
        let is : pointed new n ≡ Some table = ap (pointed new) e ∙ some in
        rw (was, is, rest) (omega arith)
    by_last false test later =
        let e : n ≡ index → ⊥ = grind (arith, nat_tests) in
        let rest = later (omega arith) in
        let here : pointed new n ≡ pointed old n = same n (omega arith) e in
        rw here (omega arith)

-- so a tree has at most 1025 tables
pub few_tables : (tables : List (List ℕ)) → IsTree tables → length tables < 0x200000
few_tables tables tree = let most = pointers_below-le tables 1024 in let whole = tree.reached in omega arith

pub IsTree-with_word : (tables : List (List ℕ)) (k i word : ℕ) → IsTree tables → 0 < k → k < length tables → IsTree (with_word tables k i word)
IsTree-with_word tables k i word tree below within =
    let same = λ (j : ℕ). pointed-with_word tables k i word j below in
    record {
      sized = IsSized-with_word tables k i word tree.sized within;
      empty = λ j small none. word_in-with_word_table tables k i word 0 j (λ e. omega arith) ∙ tree.empty j small (sym (same j) ∙ none);
      below = λ j table small is. tree.below j table small (sym (same j) ∙ is);
      apart = λ j j' table small small' is is'. tree.apart j j' table small small' (sym (same j) ∙ is) (sym (same j') ∙ is');
      reached = length-with_word tables k i word ∙ tree.reached ∙ ap (λ n. n + 1) (sym (pointers_below-same tables (with_word tables k i word) 1024 (λ j below. same j)));
    }

pub table_for-pointed : (tables : List (List ℕ)) (vpn : ℕ) → table_for tables vpn ≡ pointed tables (vpn / 1024)
unfolding table_for pointed
table_for-pointed tables vpn = refl

-- nor does a write below the root change which pages have a table
pub SameTables-with_word : (tables : List (List ℕ)) (k i word : ℕ) → 0 < k → SameTables tables (with_word tables k i word)
unfolding has_table
SameTables-with_word tables k i word below q fits =
    ap is_some (table_for-pointed (with_word tables k i word) q ∙ pointed-with_word tables k i word (q / 1024) below ∙ sym (table_for-pointed tables q))

-- a write of a page's word changes its entry alone
pub entry_at-with_word : (tables : List (List ℕ)) (vpn table word q : ℕ) → IsTree tables → vpn < 2 ^ 20 → q < 2 ^ 20 → table < length tables
    → table_for tables vpn ≡ Some table
    → entry_at (with_word tables table (vpn % 1024) word) q ≡ cond (q == vpn) (entry_of word) (entry_at tables q)
unfolding entry_at entry_in
entry_at-with_word tables vpn table word q tree fits fits' within is =
    let is-pointed : pointed tables (vpn / 1024) ≡ Some table = sym (table_for-pointed tables vpn) ∙ is in
    let below = tree.below (vpn / 1024) table (omega arith) is-pointed in
    let same : table_for (with_word tables table (vpn % 1024) word) q ≡ table_for tables q =
    table_for-pointed _ q ∙ pointed-with_word tables table (vpn % 1024) word (q / 1024) below ∙ sym (table_for-pointed tables q) in
    ap (entry_in (with_word tables table (vpn % 1024) word) q) same ∙ by_page (table_for tables q) refl (q == vpn) refl
  where
    pointed_vpn : pointed tables (vpn / 1024) ≡ Some table
    pointed_vpn = sym (table_for-pointed tables vpn) ∙ is

    by_page : (o : Option ℕ) → table_for tables q ≡ o → (b : Bool) → (q == vpn) ≡ b
        → entry_in (with_word tables table (vpn % 1024) word) q o ≡ cond b (entry_of word) (entry_in tables q o)
    by_page None none true page =
        let e : q ≡ vpn = grind (arith, nat_tests) in
        let clash : ◌≡◌ {A = Option ℕ} (Some table) None = sym is ∙ ap (table_for tables) (sym e) ∙ none in
        cc
    by_page None none false page = refl
    by_page (Some other) some true page =
        let e : q ≡ vpn = grind (arith, nat_tests) in
        let both : Some other ≡ Some table = sym some ∙ ap (table_for tables) e ∙ is in
        let one : other ≡ table = cc in
        rw (one, e) (ap entry_of (word_in-with_word_same tables table (vpn % 1024) word tree.sized within (omega arith)))
    by_page (Some other) some false page =
        ap entry_of (by_table (other == table) refl)
      where
        apart : q ≡ vpn → ⊥
        apart = grind (arith, nat_tests)

        by_table : (b : Bool) → (other == table) ≡ b
            → word_in (with_word tables table (vpn % 1024) word) other (q % 1024) ≡ word_in tables other (q % 1024)
        by_table true same =
            let e : other ≡ table = grind (arith, nat_tests) in
            let there : pointed tables (q / 1024) ≡ Some table = sym (table_for-pointed tables q) ∙ some ∙ ap Some e in
            let region : q / 1024 ≡ vpn / 1024 = tree.apart (q / 1024) (vpn / 1024) table (omega arith) (omega arith) there pointed_vpn in
            rw e (word_in-with_word_index tables table (vpn % 1024) word (q % 1024) within (λ index. apart (omega arith)))
        by_table false same =
            word_in-with_word_table tables table (vpn % 1024) word other (q % 1024) (grind (arith, nat_tests))
