-- Laws of translation caches for the crates above: what each call does to all entries, and to the entry of a page.
use Rattle.std.specs.Prelude.{◌≡◌, ◌≢◌, ℕ, ◌+◌, ◌<◌, Bool, true, false, ◌||◌, ◌&&◌, not, nat_lt, Option, Some, None, List, [], ◌∷◌, ◌++◌, length, drop, map, find, position, slice_set, All, refl, ◌⊎◌}
use Rattle.std.proofs.Common.{sym, ◌∙◌, ap, arith, cond, get_or, inl, inr, option_map, suc, zero}
use Rattle.std.specs.List.{position_or_len}
use Rattle.std.proofs.lemmas.List.Elements.{All-head, All-tail, All-nil, All-cons, All-set, All-push, All-drop, All-filter}
use Rattle.std.proofs.lemmas.List.Folds.{find_at}
use Rattle.std.proofs.lemmas.Bool.Decides.{nat_tests}
use Rattle.std.proofs.lemmas.Option.{slice_get_past}
use Rattle.page_memory.specs.declared.words.Access.{Access}
use Rattle.page_memory.specs.declared.words.Access.TheVariants.{Store}
use Rattle.page_memory.specs.Rights.{may}
use Rattle.tlb_core.specs.declared.translation.Translation.{Translation}
use Rattle.tlb_core.specs.Cache.{Hits, OnePerPage, is_of_page, translation_of, has_mark, holds_mark, with_room, filled, filled_at, doomed_entry, doomed, undoomed}

-- the first entry is the page's, or the page's stands behind it
first_or_later : (page : ℕ) (x e : Translation) (o : Option Translation) → cond (is_of_page page x) (Some x) o ≡ Some e
    → ((x ≡ e) × (x.page ≡ page)) ⊎ ((is_of_page page x ≡ false) × (o ≡ Some e))
first_or_later page x e o found = by_test (is_of_page page x) refl found
  where
    by_test : (b : Bool) → is_of_page page x ≡ b → cond b (Some x) o ≡ Some e → ((x ≡ e) × (x.page ≡ page)) ⊎ ((is_of_page page x ≡ false) × (o ≡ Some e))
    by_test true test found = let same : x ≡ e = cc in let of : x.page ≡ page = grind (arith, nat_tests) in inl (same, of)
    by_test false test found = inr (test, found)

pub first_is_other : (page : ℕ) (x : Translation) (o : Option Translation) → cond (is_of_page page x) (Some x) o ≡ None → (x.page ≢ page) × (o ≡ None)
first_is_other page x o none = by_test (is_of_page page x) refl none
  where
    by_test : (b : Bool) → is_of_page page x ≡ b → cond b (Some x) o ≡ None → (x.page ≢ page) × (o ≡ None)
    by_test true test none = cc
    by_test false test none = (grind (arith, nat_tests), none)

-- a page's entry is the page's, and what holds of each entry holds of it
pub page-entry_of : (page : ℕ) (cache : List Translation) (e : Translation) → translation_of page cache ≡ Some e → e.page ≡ page
page-entry_of page [] e found = cc
page-entry_of page (x ∷ xs) e found =
    elim (first_or_later page x e (find (is_of_page page) xs) found) [
      | inl here ↦ ap (λ (z : Translation). z.page) (sym here.0) ∙ here.1
      | inr later ↦ page-entry_of page xs e later.1
    ]

pub All-entry_of : (P : Translation → Type 0) (page : ℕ) (cache : List Translation) (e : Translation) → All P cache → translation_of page cache ≡ Some e → P e
All-entry_of P page [] e all found = cc
All-entry_of P page (x ∷ xs) e all found =
    elim (first_or_later page x e (find (is_of_page page) xs) found) [
      | inl here ↦ let same : x ≡ e = here.0 in rw (← same) (All-head P x xs all)
      | inr later ↦ All-entry_of P page xs e (All-tail P x xs all) later.1
    ]

-- where a page has no entry, each entry is another's, and the other way round
pub All-none : (page : ℕ) (cache : List Translation) → translation_of page cache ≡ None → All (λ e. e.page ≢ page) cache
All-none page [] none = All-nil (λ (e : Translation). e.page ≢ page)
All-none page (x ∷ xs) none =
    let both = first_is_other page x (find (is_of_page page) xs) none in
    All-cons (λ (e : Translation). e.page ≢ page) x xs both.0 (All-none page xs both.1)

pub none-All : (page : ℕ) (cache : List Translation) → All (λ e. e.page ≢ page) cache → translation_of page cache ≡ None
none-All page [] all = refl
none-All page (x ∷ xs) all =
    let apart : x.page ≢ page = All-head (λ (e : Translation). e.page ≢ page) x xs all in
    let test : is_of_page page x ≡ false = grind (arith, nat_tests) in
    rw test (none-All page xs (All-tail (λ (e : Translation). e.page ≢ page) x xs all))

-- where no entry is a page's, none has its dirty mark
pub unmarked-All : (page : ℕ) (cache : List Translation) → All (λ e. e.page ≢ page) cache → holds_mark page cache ≡ false
unmarked-All page [] all = refl
unmarked-All page (x ∷ xs) all =
    let apart : x.page ≢ page = All-head (λ (e : Translation). e.page ≢ page) x xs all in
    let test : is_of_page page x ≡ false = grind (arith, nat_tests) in
    rw test (unmarked-All page xs (All-tail (λ (e : Translation). e.page ≢ page) x xs all))

-- where a page has at most one entry, that one tells of the mark
pub marked_as : (page : ℕ) (cache : List Translation) → OnePerPage cache → holds_mark page cache ≡ has_mark (translation_of page cache)
marked_as page [] one = refl
marked_as page (x ∷ xs) one =
    by_test (is_of_page page x) refl (marked_as page xs (record { apart = λ i j d below inside. one.apart (suc i) (suc j) d (omega arith) (omega arith) }))
  where
    or_false : (b : Bool) → (b || false) ≡ b
    or_false true = refl
    or_false false = refl

    by_test : (b : Bool) → is_of_page page x ≡ b → holds_mark page xs ≡ has_mark (translation_of page xs) → (is_of_page page x && x.dirty || holds_mark page xs) ≡ has_mark (cond (is_of_page page x) (Some x) (translation_of page xs))
    by_test true test later =
        let of : x.page ≡ page = grind (arith, nat_tests) in
        let none : holds_mark page xs ≡ false = unmarked-All page xs (λ k d within same. one.apart 0 (suc k) d (omega arith) (omega arith) (of ∙ sym same)) in
        rw (test, none) (or_false x.dirty)
    by_test false test later = rw test later

none_without_place : (p : Translation → Bool) (xs : List Translation) → nat_lt (position_or_len p xs) (length xs) ≡ false → find p xs ≡ None
none_without_place p xs test = find_at p xs ∙ slice_get_past xs (position_or_len p xs) (grind (arith, nat_tests))

-- a page has no entry where a search for its place finds none
pub find_nowhere : (page : ℕ) (xs : List Translation) → position (is_of_page page) xs ≡ None → translation_of page xs ≡ None
find_nowhere page xs is = by_length (nat_lt n (length xs)) refl is
  where
    n : ℕ
    n = position_or_len (is_of_page page) xs

    by_length : (b : Bool) → nat_lt n (length xs) ≡ b → cond b (Some n) None ≡ None → translation_of page xs ≡ None
    by_length true test is = cc
    by_length false test is = none_without_place (is_of_page page) xs test

-- the entry that a place shows is the page's
pub found_at : (page : ℕ) (xs : List Translation) (k : ℕ) (x : Translation) → OnePerPage xs → k < length xs → x ≡ get_or xs k x → x.page ≡ page
    → find (is_of_page page) xs ≡ Some x
found_at page [] k x one within is of = absurd (omega arith)
found_at page (y ∷ ys) zero x one within is of =
    let test : is_of_page page y ≡ true = let e : y.page ≡ page = ap (λ (z : Translation). z.page) (sym is) ∙ of in grind (arith, nat_tests) in
    rw test (ap Some (sym is))
found_at page (y ∷ ys) (suc k) x one within is of =
    let apart : y.page ≢ (get_or ys k x).page = one.apart 0 (suc k) x (omega arith) within in
    let e : (get_or ys k x).page ≡ page = ap (λ (z : Translation). z.page) (sym is) ∙ of in
    let test : is_of_page page y ≡ false = let ne : y.page ≢ page = λ s. apart (s ∙ sym e) in grind (arith, nat_tests) in
    rw test (found_at page ys k x (record { apart = λ i j d below inside. one.apart (suc i) (suc j) d (omega arith) (omega arith) }) (omega arith) is of)

-- `fill`: each entry is the one that was put in, or an old one
All-with_room : (P : Translation → Type 0) (cache : List Translation) → All P cache → All P (with_room cache)
unfolding with_room
All-with_room P cache all = by_room (nat_lt (length cache) 16)
  where
    by_room : (b : Bool) → All P (cond b cache (drop 1 cache))
    by_room true = all
    by_room false = All-drop P 1 cache all

pub All-filled : (P : Translation → Type 0) (e : Translation) (cache : List Translation) → P e → All P cache → All P (filled e cache)
unfolding filled filled_at
All-filled P e cache here all = by_place (position (is_of_page e.page) cache)
  where
    by_place : (o : Option ℕ) → All P (filled_at e cache o)
    by_place (Some k) = All-set P cache k e here all
    by_place None = All-push P (with_room cache) e (All-with_room P cache all) here

-- and it is found then
find_behind : (page : ℕ) (e : Translation) (xs : List Translation) → e.page ≡ page → All (λ x. x.page ≢ page) xs → translation_of page (xs ++ e ∷ []) ≡ Some e
find_behind page e [] of all = let test : is_of_page page e ≡ true = grind (arith, nat_tests) in rw test refl
find_behind page e (x ∷ xs) of all =
    let apart : x.page ≢ page = All-head (λ (y : Translation). y.page ≢ page) x xs all in
    let test : is_of_page page x ≡ false = grind (arith, nat_tests) in
    rw test (find_behind page e xs of (All-tail (λ (y : Translation). y.page ≢ page) x xs all))

find_in_place : (page : ℕ) (e : Translation) (xs : List Translation) → e.page ≡ page → position_or_len (is_of_page page) xs < length xs → translation_of page (slice_set xs (position_or_len (is_of_page page) xs) e) ≡ Some e
find_in_place page e [] of within = absurd (omega arith)
find_in_place page e (x ∷ xs) of within = by_test (is_of_page page x) refl within (find_in_place page e xs of)
  where
    n : ℕ
    n = position_or_len (is_of_page page) xs

    here : is_of_page page e ≡ true
    here = grind (arith, nat_tests)

    by_test : (b : Bool) → is_of_page page x ≡ b → cond (not b) (1 + n) 0 < length (x ∷ xs)
        → (n < length xs → translation_of page (slice_set xs n e) ≡ Some e) → translation_of page (slice_set (x ∷ xs) (cond (not b) (1 + n) 0) e) ≡ Some e
    by_test true test within rest = rw here refl
    by_test false test within rest =
        let next : 1 + n ≡ suc n = omega arith in
        rw (next, test) (rest (omega arith))

pub filled_finds : (e : Translation) (cache : List Translation) → translation_of e.page (filled e cache) ≡ Some e
unfolding filled filled_at
filled_finds e cache = by_length (nat_lt n (length cache)) refl
  where
    n : ℕ
    n = position_or_len (is_of_page e.page) cache

    by_length : (b : Bool) → nat_lt n (length cache) ≡ b → translation_of e.page (filled_at e cache (cond b (Some n) None)) ≡ Some e
    by_length true test = find_in_place e.page e cache refl (grind (arith, nat_tests))
    by_length false test =
        let none = none_without_place (is_of_page e.page) cache test in
        find_behind e.page e (with_room cache) refl (All-with_room (λ x. x.page ≢ e.page) cache (All-none e.page cache none))

-- an access that it serves hits then
pub hits_filled : (access : Access) (e : Translation) (cache : List Translation) → may access e.rights ≡ true → (access ≡ Store → e.dirty ≡ true) → Hits (filled e cache) access e.page e.place
hits_filled access e cache allowed dirty = record { entry = e; found = filled_finds e cache; at = refl; allowed = allowed; dirty = dirty }

-- `drop_doomed`: each entry is an old one that is not marked
pub All-undoomed : (P : Translation → Type 0) (cache : List Translation) → All P cache → All P (undoomed cache)
unfolding undoomed
All-undoomed P cache all = All-filter (λ e. not e.doomed) P cache all

-- the entry of a page after `doom`
pub entry_of-doomed : (q page : ℕ) (cache : List Translation) → translation_of q (doomed page cache) ≡ option_map (doomed_entry page) (translation_of q cache)
unfolding doomed
entry_of-doomed q page [] = refl
entry_of-doomed q page (x ∷ xs) = by_test (is_of_page q x) (find (is_of_page q) xs) (find (is_of_page q) (map (doomed_entry page) xs)) (entry_of-doomed q page xs)
  where
    by_test : (b : Bool) (o o' : Option Translation) → o' ≡ option_map (doomed_entry page) o
        → cond b (Some (doomed_entry page x)) o' ≡ option_map (doomed_entry page) (cond b (Some x) o)
    by_test true o o' is = refl
    by_test false o o' is = is
