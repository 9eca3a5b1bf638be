-- What stands where in a cache, and that each page keeps at most one entry.
use Rattle.std.proofs.Common.{◌≡◌, ◌≢◌, ℕ, zero, suc, ◌+◌, ◌<◌, ◌≤◌, Bool, true, false, cond, refl, sym, ap, ◌∙◌, arith, List, [], ◌∷◌, ◌++◌, length, get_or, set, take, drop, map, add-one, Option, Some, None, nat_lt}
use Rattle.std.specs.Prelude.{find, position, not, slice_get, filter, ◌||◌}
use Rattle.std.specs.List.{position_or_len, refill, list_any}
use Rattle.std.proofs.Math.ListN.{length-set}
use Rattle.std.proofs.lemmas.List.{get_or-map, length-map, map-set, set-get_or, get_or-drop, length-drop, take_all, drop_all, append-nil}
use Rattle.std.proofs.lemmas.List.Folds.{find_at}
use Rattle.std.proofs.lemmas.List.Quantifiers.{position-Some, all_pairs_push}
use Rattle.std.proofs.lemmas.List.Kept.{AllPairs-filter}
use Rattle.std.proofs.lemmas.Bool.Decides.{nat_tests}
use Rattle.std.proofs.lemmas.Option.{slice_get-get_or}
use Rattle.tlb_core.specs.declared.translation.Translation.{Translation}
use Rattle.tlb_core.proofs.CacheLaws.{first_is_other}
use Rattle.tlb_core.specs.Cache.{OnePerPage, is_of_page, translation_of, with_room, filled, filled_at, doomed, doomed_entry, undoomed}

-- where no entry is marked, none is dropped
pub none_dropped : (xs : List Translation) → list_any (λ (e : Translation). e.doomed) xs ≡ false → undoomed xs ≡ xs
unfolding undoomed
none_dropped [] none = refl
none_dropped (x ∷ xs) none = by_mark x.doomed (filter (λ (e : Translation). not e.doomed) xs) none (none_dropped xs)
  where
    by_mark : (b : Bool) (left : List Translation) → (b || list_any (λ (e : Translation). e.doomed) xs) ≡ false
        → (list_any (λ (e : Translation). e.doomed) xs ≡ false → left ≡ xs) → cond (not b) (x ∷ left) left ≡ x ∷ xs
    by_mark true left none rest = cc
    by_mark false left none rest = ap (λ l. x ∷ l) (rest none)

-- a search by place is a search
pub find_at_place : (page : ℕ) (xs : List Translation) (k : ℕ) (d : Translation) → position (is_of_page page) xs ≡ Some k → Some (get_or xs k d) ≡ translation_of page xs
find_at_place page xs k d is = by_length (nat_lt n (length xs)) refl is
  where
    n : ℕ
    n = position_or_len (is_of_page page) xs

    by_length : (b : Bool) → nat_lt n (length xs) ≡ b → cond b (Some n) None ≡ Some k → Some (get_or xs k d) ≡ translation_of page xs
    by_length true test is =
        let e : n ≡ k = cc in
        let less : n < length xs = grind (arith, nat_tests) in
        sym (find_at (is_of_page page) xs ∙ ap (slice_get xs) e ∙ slice_get-get_or xs k d (omega arith))
    by_length false test is = cc

-- the same pages in the same places
abbrev pub pages : List Translation → List ℕ
pages xs = map (λ e. e.page) xs

page_at : (xs : List Translation) (k : ℕ) (d : Translation) → k < length xs → get_or (pages xs) k 0 ≡ (get_or xs k d).page
page_at xs k d within = get_or-map (λ (e : Translation). e.page) xs k d 0 within

pub one_per_page_same : (xs ys : List Translation) → pages ys ≡ pages xs → OnePerPage xs → OnePerPage ys
one_per_page_same xs ys same one = record { apart = λ i j d below within. both i j d below within }
  where
    both : (i j : ℕ) (d : Translation) → i < j → j < length ys → (get_or ys i d).page ≢ (get_or ys j d).page
    both i j d below within =
        let long : length ys ≡ length xs = sym (length-map ys (λ (e : Translation). e.page)) ∙ ap length same ∙ length-map xs (λ (e : Translation). e.page) in
        let a = page_at ys i d (omega arith) in
        let b = page_at ys j d within in
        let a' = page_at xs i d (omega arith) in
        let b' = page_at xs j d (omega arith) in
        let first : (get_or ys i d).page ≡ (get_or xs i d).page = sym a ∙ ap (λ l. get_or l i 0) same ∙ a' in
        let second : (get_or ys j d).page ≡ (get_or xs j d).page = sym b ∙ ap (λ l. get_or l j 0) same ∙ b' in
        λ e. one.apart i j d below (omega arith) (sym first ∙ e ∙ second)

-- an entry is put in at the place of its page's
pages-set : (xs : List Translation) (k : ℕ) (e d : Translation) → (get_or xs k d).page ≡ e.page → pages (set xs k e) ≡ pages xs
pages-set xs k e d same =
    map-set (λ (x : Translation). x.page) xs k e ∙ ap (set (pages xs) k) (sym same)
    ∙ sym (map-set (λ (x : Translation). x.page) xs k (get_or xs k d)) ∙ ap pages (set-get_or xs k d)

pub pages_replaced : (xs ys : List Translation) (e : Translation) (k : ℕ) → position (is_of_page e.page) xs ≡ Some k → ys ≡ set xs k e → pages ys ≡ pages xs
pages_replaced xs ys e k is made =
    let at = position-Some (is_of_page e.page) xs k e is in
    let same : (get_or xs k e).page ≡ e.page = let t = at.1 in grind (arith, nat_tests) in
    ap pages made ∙ pages-set xs k e e same

pub one_per_page_replaced : (xs ys : List Translation) (e : Translation) (k : ℕ) → OnePerPage xs → position (is_of_page e.page) xs ≡ Some k → ys ≡ set xs k e → OnePerPage ys
one_per_page_replaced xs ys e k one is made = one_per_page_same xs ys (pages_replaced xs ys e k is made) one

pub place_within : (page : ℕ) (xs : List Translation) (k : ℕ) → position (is_of_page page) xs ≡ Some k → k < length xs
place_within page xs k is = by_length (nat_lt n (length xs)) refl is
  where
    n : ℕ
    n = position_or_len (is_of_page page) xs

    by_length : (b : Bool) → nat_lt n (length xs) ≡ b → cond b (Some n) None ≡ Some k → k < length xs
    by_length true test is = let e : n ≡ k = cc in let less : n < length xs = grind (arith, nat_tests) in omega arith
    by_length false test is = cc

-- where a search finds no entry of a page, none of that page stands
not_there : (page : ℕ) (xs : List Translation) (k : ℕ) (d : Translation) → translation_of page xs ≡ None → k < length xs → (get_or xs k d).page ≢ page
not_there page [] k d none within = absurd (omega arith)
not_there page (x ∷ xs) zero d none within = (first_is_other page x (find (is_of_page page) xs) none).0
not_there page (x ∷ xs) (suc k) d none within = not_there page xs k d ((first_is_other page x (find (is_of_page page) xs) none).1) (omega arith)

one_per_page_dropped : (n : ℕ) (xs : List Translation) → OnePerPage xs → OnePerPage (drop n xs)
one_per_page_dropped n xs one =
    let long = length-drop n xs in
    record { apart = λ i j d below within. rw (get_or-drop n xs i d, get_or-drop n xs j d) (one.apart (n + i) (n + j) d (omega arith) (omega arith)) }

pub one_per_page_room : (xs ys : List Translation) → OnePerPage xs → ys ≡ drop 1 xs → OnePerPage ys
one_per_page_room xs ys one made = rw made (one_per_page_dropped 1 xs one)

-- what has no entry has none once the oldest is gone
not_in_room : (page : ℕ) (xs : List Translation) (k : ℕ) (d : Translation) → translation_of page xs ≡ None → k < length (with_room xs) → (get_or (with_room xs) k d).page ≢ page
unfolding with_room
not_in_room page xs k d none within = by_room (nat_lt (length xs) 16) within
  where
    by_room : (b : Bool) → k < length (cond b xs (drop 1 xs)) → (get_or (cond b xs (drop 1 xs)) k d).page ≢ page
    by_room true within = not_there page xs k d none within
    by_room false within = let long = length-drop 1 xs in rw (get_or-drop 1 xs k d) (not_there page xs (1 + k) d none (omega arith))

pub one_per_page_behind : (xs rs ys : List Translation) (e : Translation) → OnePerPage rs → rs ≡ with_room xs → translation_of e.page xs ≡ None → ys ≡ rs ++ e ∷ [] → OnePerPage ys
one_per_page_behind xs rs ys e one room none made =
    rw made (record {
      apart = all_pairs_push (λ (a b : Translation). a.page ≢ b.page) rs e one.apart
          (λ k d within. let there : k < length (with_room xs) = rw (← room) within in rw room (not_in_room e.page xs k d none there));
    })

-- marks change no page
pub pages-doomed : (page : ℕ) (xs : List Translation) → pages (doomed page xs) ≡ pages xs
unfolding doomed
pages-doomed page [] = refl
pages-doomed page (x ∷ xs) = ap (λ l. x.page ∷ l) (pages-doomed page xs)

pub one_per_page_doomed : (page : ℕ) (xs ys : List Translation) → OnePerPage xs → ys ≡ doomed page xs → OnePerPage ys
one_per_page_doomed page xs ys one made = one_per_page_same xs ys (ap pages made ∙ pages-doomed page xs) one

pub one_per_page_undoomed : (xs ys : List Translation) → OnePerPage xs → ys ≡ undoomed xs → OnePerPage ys
unfolding undoomed
one_per_page_undoomed xs ys one made = rw made (record { apart = AllPairs-filter (λ (a b : Translation). a.page ≢ b.page) (λ e. not e.doomed) xs one.apart })

-- the two ways to put an entry in
pub filled_in_place : (e : Translation) (xs : List Translation) (k : ℕ) → position (is_of_page e.page) xs ≡ Some k → filled e xs ≡ set xs k e
unfolding filled filled_at
filled_in_place e xs k is = rw is refl

pub filled_behind : (e : Translation) (xs : List Translation) → position (is_of_page e.page) xs ≡ None → filled e xs ≡ with_room xs ++ e ∷ []
unfolding filled filled_at
filled_behind e xs is = rw is refl

-- a page that has no entry is not found, so that its entry goes behind the others
pub filled_new : (e : Translation) (xs : List Translation) → translation_of e.page xs ≡ None → filled e xs ≡ with_room xs ++ e ∷ []
filled_new e xs none = by_place (position (is_of_page e.page) xs) refl
  where
    by_place : (o : Option ℕ) → position (is_of_page e.page) xs ≡ o → filled e xs ≡ with_room xs ++ e ∷ []
    by_place None is = filled_behind e xs is
    by_place (Some k) is =
        let at = position-Some (is_of_page e.page) xs k e is in
        absurd (not_there e.page xs k e none (place_within e.page xs k is) (let t = at.1 in grind (arith, nat_tests)))

pub room_made : (xs : List Translation) → length xs ≡ 16 → with_room xs ≡ drop 1 xs
unfolding with_room
room_made xs full = let test : nat_lt (length xs) 16 ≡ false = grind (arith, nat_tests) in rw test refl

pub room_there : (xs : List Translation) → length xs < 16 → with_room xs ≡ xs
unfolding with_room
room_there xs few = let test : nat_lt (length xs) 16 ≡ true = grind (arith, nat_tests) in rw test refl

-- marks, one entry after the other
abbrev pub marked_below : ℕ → List Translation → ℕ → List Translation
marked_below page xs i = map (doomed_entry page) (take i xs) ++ drop i xs

marked_suc : (page : ℕ) (xs : List Translation) (i : ℕ) (d : Translation) → i < length xs
    → set (marked_below page xs i) i (doomed_entry page (get_or (marked_below page xs i) i d)) ≡ marked_below page xs (suc i)
marked_suc page [] i d within = absurd (omega arith)
marked_suc page (x ∷ xs) zero d within = refl
marked_suc page (x ∷ xs) (suc i) d within = ap (λ l. doomed_entry page x ∷ l) (marked_suc page xs i d (omega arith))

pub marked_more : (page : ℕ) (xs : List Translation) (i : ℕ) (d : Translation) → i < length xs
    → set (marked_below page xs i) i (doomed_entry page (get_or (marked_below page xs i) i d)) ≡ marked_below page xs (i + 1)
marked_more page xs i d within = rw add-one (marked_suc page xs i d within)

pub marked_all : (page : ℕ) (xs : List Translation) (i : ℕ) → length xs ≤ i → marked_below page xs i ≡ doomed page xs
unfolding doomed
marked_all page xs i past = rw (take_all i xs past, drop_all i xs past) (append-nil (map (doomed_entry page) xs))

-- a slice that was lent and kept its length stands as it is now
pub refill_same : (xs ws : List Translation) (n : ℕ) → length ws ≡ n → n ≡ length xs → refill n xs ws ≡ ws
refill_same xs ws n long same =
    let past : length xs ≤ length ws = omega arith in
    rw (drop_all (length ws) xs past, append-nil ws) (take_all n ws (omega arith))

pub marked_whole : (page : ℕ) (xs ws : List Translation) → ws ≡ doomed page xs → refill (length xs) xs ws ≡ doomed page xs
marked_whole page xs ws made =
    let long : length ws ≡ length xs = ap length made ∙ sym (length-map (doomed page xs) (λ (e : Translation). e.page)) ∙ ap length (pages-doomed page xs) ∙ length-map xs (λ (e : Translation). e.page) in
    refill_same xs ws (length xs) long refl ∙ made

pub refill_set : (xs : List Translation) (k : ℕ) (e : Translation) → refill (length xs) xs (set xs k e) ≡ set xs k e
refill_set xs k e = refill_same xs (set xs k e) (length xs) (length-set xs k e) refl
