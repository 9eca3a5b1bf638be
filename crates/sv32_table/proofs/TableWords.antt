-- The physical words that tables stand for: what stands at an address, and what a write changes.
use Rattle.std.proofs.Common.{◌≡◌, ℕ, zero, suc, ◌+◌, ◌*◌, ◌<◌, ◌≤◌, Bool, true, false, cond, refl, sym, ap, ◌∙◌, arith, List, [], ◌∷◌, ◌++◌, length, get_or, set, Option, Some, None, ◌==◌}
use Rattle.std.proofs.lemmas.Bool.Decides.{nat_tests}
use Rattle.std.specs.Ordering.{nat_cmp, eq_by_cmp}
use Rattle.std.specs.Cmp.{unsigned_tied, nat_cmp_total}
use Rattle.std.specs.FinMap.{get, insert, find, get-from_entries, get-insert, same_map, nat_cmp-IsAntisymmetric}
use Rattle.std.specs.Option.{option_or}
use Rattle.sv32_table.specs.TranslationProcess.{row, rows, physical_words}

abbrev looked_up : ℕ → List (ℕ × ℕ) → Option ℕ
looked_up q es = find nat_cmp q es

abbrev same : ℕ → ℕ → Bool
same x y = eq_by_cmp nat_cmp x y

same_yes : (x y : ℕ) → x ≡ y → same x y ≡ true
same_yes x y is = unsigned_tied x y ∙ grind (arith, nat_tests)

same_no : (x y : ℕ) → (x ≡ y → ⊥) → same x y ≡ false
same_no x y apart = unsigned_tied x y ∙ grind (arith, nat_tests)

option_or-cond : (b : Bool) (word : ℕ) (o rest : Option ℕ) → option_or (cond b (Some word) o) rest ≡ cond b (Some word) (option_or o rest)
option_or-cond true word o rest = refl
option_or-cond false word o rest = refl

found-append : (q : ℕ) (es fs : List (ℕ × ℕ)) → looked_up q (es ++ fs) ≡ option_or (looked_up q es) (looked_up q fs)
found-append q [] fs = refl
found-append q (e ∷ es) fs = ap (cond (same q e.0) (Some e.1)) (found-append q es fs) ∙ sym (option_or-cond (same q e.0) e.1 (looked_up q es) (looked_up q fs))

-- nothing stands below a row, and nothing behind it
found_below-row : (q address : ℕ) (words : List ℕ) → q < address → looked_up q (row address words) ≡ None
found_below-row q address [] below = refl
found_below-row q address (word ∷ words) below =
    ap (λ b. cond b (Some word) (looked_up q (row (address + 4) words))) (same_no q address (λ e. omega arith)) ∙ found_below-row q (address + 4) words (omega arith)

found_past-row : (q address : ℕ) (words : List ℕ) → address + 4 * length words ≤ q → looked_up q (row address words) ≡ None
found_past-row q address [] past = refl
found_past-row q address (word ∷ words) past =
    ap (λ b. cond b (Some word) (looked_up q (row (address + 4) words))) (same_no q address (λ e. omega arith)) ∙ found_past-row q (address + 4) words (omega arith)

-- a word of a row
found-row : (q address : ℕ) (words : List ℕ) (i : ℕ) → i < length words → q ≡ address + 4 * i → looked_up q (row address words) ≡ Some (get_or words i 0)
found-row q address [] i within is = absurd (omega arith)
found-row q address (word ∷ words) zero within is = ap (λ b. cond b (Some word) (looked_up q (row (address + 4) words))) (same_yes q address (omega arith))
found-row q address (word ∷ words) (suc i) within is =
    ap (λ b. cond b (Some word) (looked_up q (row (address + 4) words))) (same_no q address (λ e. omega arith)) ∙ found-row q (address + 4) words i (omega arith) (omega arith)

same_is : (x y : ℕ) → same x y ≡ true → x ≡ y
same_is x y is = let tied : (x == y) ≡ true = sym (unsigned_tied x y) ∙ is in grind (arith, nat_tests)

cond_again : (b c : Bool) (x y : ℕ) (o : Option ℕ) → b ≡ c → cond b (Some x) o ≡ cond c (Some x) (cond b (Some y) o)
cond_again true true x y o e = refl
cond_again true false x y o e = cc
cond_again false true x y o e = cc
cond_again false false x y o e = refl

cond_swap : (b c : Bool) (x y : ℕ) (o : Option ℕ) → (b ≡ true → c ≡ true → ⊥) → cond b (Some x) (cond c (Some y) o) ≡ cond c (Some y) (cond b (Some x) o)
cond_swap true true x y o apart = absurd (apart refl refl)
cond_swap true false x y o apart = refl
cond_swap false c x y o apart = refl

-- a write to a row
found-row-set : (q at address : ℕ) (words : List ℕ) (i new : ℕ) → i < length words → at ≡ address + 4 * i
    → looked_up q (row address (set words i new)) ≡ cond (same q at) (Some new) (looked_up q (row address words))
found-row-set q at address [] i new within is = absurd (omega arith)
found-row-set q at address (word ∷ words) zero new within is =
    let e : address ≡ at = omega arith in
    cond_again (same q address) (same q at) new word (looked_up q (row (address + 4) words)) (ap (same q) e)
found-row-set q at address (word ∷ words) (suc i) new within is =
    let below = found-row-set q at (address + 4) words i new (omega arith) (omega arith) in
    ap (cond (same q address) (Some word)) below
    ∙ cond_swap (same q address) (same q at) word new (looked_up q (row (address + 4) words)) (λ a b. let x = same_is q address a in let y = same_is q at b in omega arith)

option_or-swap : (b : Bool) (new : ℕ) (o rest : Option ℕ) → (b ≡ true → o ≡ None) → option_or o (cond b (Some new) rest) ≡ cond b (Some new) (option_or o rest)
option_or-swap true new o rest none = ap (λ p. option_or p (Some new)) (none refl)
option_or-swap false new o rest none = refl

abbrev Sized : List (List ℕ) → Type 0
Sized tables = (table : ℕ) → table < length tables → length (get_or tables table []) ≡ 1024

sized_tail : (table : List ℕ) (tables : List (List ℕ)) → Sized (table ∷ tables) → Sized tables
sized_tail table tables sized k within = sized (suc k) (omega arith)

-- a word of a table
found-rows : (q ppn : ℕ) (tables : List (List ℕ)) (k i : ℕ) → k < length tables → Sized tables → i < 1024 → q ≡ (ppn + k) * 4096 + 4 * i
    → looked_up q (rows ppn tables) ≡ Some (get_or (get_or tables k []) i 0)
found-rows q ppn [] k i within sized small is = absurd (omega arith)
found-rows q ppn (table ∷ tables) zero i within sized small is =
    let long : length table ≡ 1024 = sized 0 (omega arith) in
    found-append q (row (ppn * 4096) table) (rows (ppn + 1) tables)
    ∙ ap (λ o. option_or o (looked_up q (rows (ppn + 1) tables))) (found-row q (ppn * 4096) table i (omega arith) (omega arith))
found-rows q ppn (table ∷ tables) (suc k) i within sized small is =
    let long : length table ≡ 1024 = sized 0 (omega arith) in
    found-append q (row (ppn * 4096) table) (rows (ppn + 1) tables)
    ∙ ap (λ o. option_or o (looked_up q (rows (ppn + 1) tables))) (found_past-row q (ppn * 4096) table (omega arith))
    ∙ found-rows q (ppn + 1) tables k i (omega arith) (sized_tail table tables sized) small (omega arith)

-- nothing stands below the tables, and nothing behind them
found_below-rows : (q ppn : ℕ) (tables : List (List ℕ)) → q < ppn * 4096 → looked_up q (rows ppn tables) ≡ None
found_below-rows q ppn [] below = refl
found_below-rows q ppn (table ∷ tables) below =
    found-append q (row (ppn * 4096) table) (rows (ppn + 1) tables)
    ∙ ap (λ o. option_or o (looked_up q (rows (ppn + 1) tables))) (found_below-row q (ppn * 4096) table below)
    ∙ found_below-rows q (ppn + 1) tables (omega arith)

found_past-rows : (q ppn : ℕ) (tables : List (List ℕ)) → Sized tables → (ppn + length tables) * 4096 ≤ q → looked_up q (rows ppn tables) ≡ None
found_past-rows q ppn [] sized past = refl
found_past-rows q ppn (table ∷ tables) sized past =
    let long : length table ≡ 1024 = sized 0 (omega arith) in
    found-append q (row (ppn * 4096) table) (rows (ppn + 1) tables)
    ∙ ap (λ o. option_or o (looked_up q (rows (ppn + 1) tables))) (found_past-row q (ppn * 4096) table (omega arith))
    ∙ found_past-rows q (ppn + 1) tables (sized_tail table tables sized) (omega arith)

-- a write to a table
found-rows-set : (q at ppn : ℕ) (tables : List (List ℕ)) (k i new : ℕ) → k < length tables → Sized tables → i < 1024 → at ≡ (ppn + k) * 4096 + 4 * i
    → looked_up q (rows ppn (set tables k (set (get_or tables k []) i new))) ≡ cond (same q at) (Some new) (looked_up q (rows ppn tables))
found-rows-set q at ppn [] k i new within sized small is = absurd (omega arith)
found-rows-set q at ppn (table ∷ tables) zero i new within sized small is =
    let long : length table ≡ 1024 = sized 0 (omega arith) in
    let rest = looked_up q (rows (ppn + 1) tables) in
    found-append q (row (ppn * 4096) (set table i new)) (rows (ppn + 1) tables)
    ∙ ap (λ o. option_or o rest) (found-row-set q at (ppn * 4096) table i new (omega arith) (omega arith))
    ∙ option_or-cond (same q at) new (looked_up q (row (ppn * 4096) table)) rest
    ∙ ap (cond (same q at) (Some new)) (sym (found-append q (row (ppn * 4096) table) (rows (ppn + 1) tables)))
found-rows-set q at ppn (table ∷ tables) (suc k) i new within sized small is =
    let long : length table ≡ 1024 = sized 0 (omega arith) in
    let here = looked_up q (row (ppn * 4096) table) in
    let below = found-rows-set q at (ppn + 1) tables k i new (omega arith) (sized_tail table tables sized) small (omega arith) in
    found-append q (row (ppn * 4096) table) (rows (ppn + 1) (set tables k (set (get_or tables k []) i new)))
    ∙ ap (option_or here) below
    ∙ option_or-swap (same q at) new here (looked_up q (rows (ppn + 1) tables)) (λ b. let x = same_is q at b in found_past-row q (ppn * 4096) table (omega arith))
    ∙ ap (cond (same q at) (Some new)) (sym (found-append q (row (ppn * 4096) table) (rows (ppn + 1) tables)))

-- the same of the memory
pub get-words_of : (tables : List (List ℕ)) (q k i : ℕ) → k < length tables → Sized tables → i < 1024 → q ≡ (0x200000 + k) * 4096 + 4 * i
    → get (physical_words tables) q ≡ Some (get_or (get_or tables k []) i 0)
unfolding physical_words
get-words_of tables q k i within sized small is =
    get-from_entries nat_cmp_total (rows 0x200000 tables) q ∙ found-rows q 0x200000 tables k i within sized small is

pub get_below-words_of : (tables : List (List ℕ)) (q : ℕ) → q < 0x200000 * 4096 → get (physical_words tables) q ≡ None
unfolding physical_words
get_below-words_of tables q below = get-from_entries nat_cmp_total (rows 0x200000 tables) q ∙ found_below-rows q 0x200000 tables below

pub get_past-words_of : (tables : List (List ℕ)) (q : ℕ) → Sized tables → (0x200000 + length tables) * 4096 ≤ q → get (physical_words tables) q ≡ None
unfolding physical_words
get_past-words_of tables q sized past = get-from_entries nat_cmp_total (rows 0x200000 tables) q ∙ found_past-rows q 0x200000 tables sized past

pub words_of-set : (tables : List (List ℕ)) (at k i new : ℕ) → k < length tables → Sized tables → i < 1024 → at ≡ (0x200000 + k) * 4096 + 4 * i
    → physical_words (set tables k (set (get_or tables k []) i new)) ≡ insert (physical_words tables) at new
unfolding physical_words
words_of-set tables at k i new within sized small is =
    same_map nat_cmp_total nat_cmp-IsAntisymmetric _ _ (λ q.
    get-from_entries nat_cmp_total (rows 0x200000 (set tables k (set (get_or tables k []) i new))) q
    ∙ found-rows-set q at 0x200000 tables k i new within sized small is
    ∙ ap (cond (same q at) (Some new)) (sym (get-from_entries nat_cmp_total (rows 0x200000 tables) q))
    ∙ sym (get-insert nat_cmp_total (physical_words tables) at new q))
