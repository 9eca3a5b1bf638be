-- What a page index's invariant says of a look-up, and how it is kept.
use Rattle.std.proofs.Common.{◌≡◌, ◌≢◌, ℕ, zero, suc, ◌+◌, ◌-◌, ◌*◌, ◌/◌, ◌%◌, ◌^◌, ◌<◌, ◌≤◌, inl, inr, List, [], ◌∷◌, ◌++◌, length, slice_index, slice_set, slice_index_or, get_or, get_or-set_same, get_or-set_other, length-set, replicate, take, drop, Option, Some, None, is_some, IfSome, IfNone, position, ◌==◌, eqb, Bool, true, false, ◌||◌, if◌then◌else◌, arith, refl, sym, ap, ◌∙◌, subst, ne_eqb, eq-eqb, eqb-true, lt-ltb, le-ltb, below_more, eq-zero-or-pos}
use Rattle.std.specs.Global.{Box}
use Rattle.std.specs.List.{position_or_len, list_any}
use Rattle.std.proofs.lemmas.List.Sums.{position_or_len_is}
use Rattle.std.proofs.lemmas.Map.Keys.{IsDistinct-from_apart}
use Rattle.std.proofs.lemmas.Map.Steps.{length-le_from_distinct_below}
use Rattle.std.proofs.lemmas.Bool.Decides.{eqb_tells, leb_tells}
use Rattle.std.proofs.lemmas.List.{get_or_default, get_or_append_left, length_push, get_or-replicate, length-replicate, length-take-le, get_or-take, take-take, take_all}
use Rattle.std.proofs.lemmas.Option.{none-some}
use Rattle.std.proofs.Math.Seq.{get_or-append_seam}
use Rattle.std.proofs.lemmas.Grind.{common_steps}
use Rattle.page_memory.specs.PageIndex.{leaf_number, kept_number, Indexes, Keeps, KeepsNone}

-- a list's first place of an element is the one place where it stands
first_place : (pages : List ℕ) (page i : ℕ) → i ≤ length pages → ((k : ℕ) → k < i → slice_index pages k ≢ page) → (i < length pages → slice_index pages i ≡ page) → position_or_len (λ listed. listed == page) pages ≡ i
first_place pages page i within before here =
    position_or_len_is (λ listed. listed == page) pages i 0 within (λ k h. ne_eqb _ _ (before k h)) (λ h. eq-eqb _ _ (here h))

place_within : (pages : List ℕ) (page i : ℕ) → i < length pages → position_or_len (λ listed. listed == page) pages ≡ i → position (λ listed. listed == page) pages ≡ Some i
place_within pages page i h e = rw e (rw (lt-ltb i (length pages) h) refl)

place_past : (pages : List ℕ) (page : ℕ) → position_or_len (λ listed. listed == page) pages ≡ length pages → position (λ listed. listed == page) pages ≡ None
place_past pages page e = rw e (rw (le-ltb (length pages) (length pages) (omega arith)) refl)

-- a page whose number is 0 is not listed
pub unlisted : (directory : List (Option (Box (List ℕ)))) (pages : List ℕ) (page : ℕ) → Indexes directory pages → kept_number directory page ≡ 0 → position (λ listed. listed == page) pages ≡ None
unlisted directory pages page is none =
    place_past pages page (first_place pages page (length pages) (omega arith) (λ k h e. let at : kept_number directory page ≡ k + 1 = subst (λ p. kept_number directory p ≡ k + 1) e (is.listed k h) in omega arith) (λ h. absurd (omega arith)))

-- a page whose number is not 0 is listed at the place before
pub listed : (directory : List (Option (Box (List ℕ)))) (pages : List ℕ) (page : ℕ) → Indexes directory pages → 0 < kept_number directory page → position (λ listed. listed == page) pages ≡ Some (kept_number directory page - 1)
listed directory pages page is some =
    let within = is.within page in
    place_within pages page (kept_number directory page - 1) (omega arith) (first_place pages page _ (omega arith) (λ k h e. let at : kept_number directory page ≡ k + 1 = subst (λ p. kept_number directory p ≡ k + 1) e (is.listed k (omega arith)) in omega arith) (λ h. is.found page some))

-- a listed page is small
member_small : (pages : List ℕ) → ((k : ℕ) → k < length pages → slice_index pages k < 2 ^ 20) → (page : ℕ) → list_any (eqb page) pages ≡ true → page < 2 ^ 20
member_small [] small page among = let never : ◌≡◌ {A = Bool} false true = among in cc
member_small (x ∷ xs) small page among =
    elim (eqb page x) as (λ b. eqb page x ≡ b → (b || list_any (eqb page) xs) ≡ true → page < 2 ^ 20) [
      | true ↦ λ e m. let same = eqb-true page x e in let first : x < 2 ^ 20 = small 0 (omega arith) in omega arith
      | false ↦ λ e m. member_small xs (λ k h. small (suc k) (omega arith)) page m
    ] refl among

-- two places of one page are one place
apart : (directory : List (Option (Box (List ℕ)))) (pages : List ℕ) → Indexes directory pages → (i j d : ℕ) → i < j → j < length pages → get_or pages i d ≡ get_or pages j d → ⊥
apart directory pages is i j d below within e =
    let same : slice_index pages i ≡ slice_index pages j = get_or_default pages i 0 d (omega arith) ∙ e ∙ get_or_default pages j d 0 within in
    let first : kept_number directory (slice_index pages i) ≡ i + 1 = is.listed i (omega arith) in
    let second : kept_number directory (slice_index pages j) ≡ j + 1 = is.listed j within in
    let one = ap (kept_number directory) same in
    omega arith

-- a page is not among those before it
pub fresh : (directory : List (Option (Box (List ℕ)))) (pages : List ℕ) (place : ℕ) → Indexes directory pages → place < length pages → position (λ listed. listed == slice_index pages place) (take place pages) ≡ None
fresh directory pages place is within =
    let many : length (take place pages) ≡ place = length-take-le place pages (omega arith) in
    place_past (take place pages) (slice_index pages place)
    (first_place (take place pages) (slice_index pages place) (length (take place pages)) (omega arith)
    (λ k h e. apart directory pages is k place 0 (omega arith) within (sym (get_or-take place pages k 0 (omega arith)) ∙ e)) (λ h. absurd (omega (arith, h))))

-- different pages below 2^20 are at most 2^20
pub few : (directory : List (Option (Box (List ℕ)))) (pages : List ℕ) → Indexes directory pages → length pages ≤ 2 ^ 20
few directory pages is =
    length-le_from_distinct_below pages (2 ^ 20)
    (IsDistinct-from_apart eqb pages (λ i j d below within. ne_eqb _ _ (apart directory pages is i j d below within)))
    (member_small pages is.small)

kept_here : (old new : List (Option (Box (List ℕ)))) (page number : ℕ) → Keeps old new page number → kept_number new page ≡ number
kept_here old new page number keeps = keeps.numbers page ∙ rw (eq-eqb page page refl) refl

kept_elsewhere : (old new : List (Option (Box (List ℕ)))) (page number other : ℕ) → Keeps old new page number → other ≢ page → kept_number new other ≡ kept_number old other
kept_elsewhere old new page number other keeps apart = keeps.numbers other ∙ rw (ne_eqb other page apart) refl

-- a page that is not listed has the number 0
number_of_absent : (directory : List (Option (Box (List ℕ)))) (pages : List ℕ) (page : ℕ) → Indexes directory pages → position (λ listed. listed == page) pages ≡ None → kept_number directory page ≡ 0
number_of_absent directory pages page is absent =
    elim (eq-zero-or-pos (kept_number directory page)) [
      | inl none ↦ none
      | inr some ↦ absurd (none-some _ (sym absent ∙ listed directory pages page is some))
    ]

-- one more page
pub one_more : (old new : List (Option (Box (List ℕ)))) (pages : List ℕ) (page : ℕ) → Indexes old pages → page < 2 ^ 20 → position (λ listed. listed == page) pages ≡ None → Keeps old new page (length pages + 1) → Indexes new (pages ++ page ∷ [])
one_more old new pages page is below absent keeps =
    let zero_there : kept_number old page ≡ 0 = number_of_absent old pages page is absent in
    let here : kept_number new page ≡ length pages + 1 = kept_here old new page _ keeps in
    let longer : length (pages ++ page ∷ []) ≡ length pages + 1 = length_push pages page in
    let last : slice_index (pages ++ page ∷ []) (length pages) ≡ page = get_or-append_seam pages page [] 0 in
    let not_page : (k : ℕ) → k < length pages → slice_index pages k ≢ page = λ k h e. let at : kept_number old page ≡ k + 1 = subst (λ p. kept_number old p ≡ k + 1) e (is.listed k h) in omega arith in
    record {
      wide = keeps.wide ∙ is.wide;
      small = λ k h. below_more (λ i. slice_index (pages ++ page ∷ []) i < 2 ^ 20) (length pages) (λ i l. rw (get_or_append_left pages (page ∷ []) 0 i l) (is.small i l)) (rw last below) k (omega arith);
      listed = λ k h. below_more (λ i. kept_number new (slice_index (pages ++ page ∷ []) i) ≡ i + 1) (length pages) (λ i l. rw (get_or_append_left pages (page ∷ []) 0 i l) (kept_elsewhere old new page _ _ keeps (not_page i l) ∙ is.listed i l)) (rw last here) k (omega arith);
      within = λ other. within_more other zero_there here longer;
      found = λ other some. found_more other zero_there here longer some;
    }
  where
    within_more : (other : ℕ) → kept_number old page ≡ 0 → kept_number new page ≡ length pages + 1 → length (pages ++ page ∷ []) ≡ length pages + 1 → kept_number new other ≤ length (pages ++ page ∷ [])
    within_more other zero_there here longer =
        elim (eqb_tells other page) [
          | inl same ↦ let e = ap (kept_number new) same.1 in omega arith
          | inr apart ↦ let e = kept_elsewhere old new page _ other keeps apart.1 in let w = is.within other in omega arith
        ]

    found_more : (other : ℕ) → kept_number old page ≡ 0 → kept_number new page ≡ length pages + 1 → length (pages ++ page ∷ []) ≡ length pages + 1 → 0 < kept_number new other → slice_index (pages ++ page ∷ []) (kept_number new other - 1) ≡ other
    found_more other zero_there here longer some =
        elim (eqb_tells other page) [
          | inl same ↦ let e : kept_number new other - 1 ≡ length pages = let f = ap (kept_number new) same.1 in omega arith in rw e (get_or-append_seam pages page [] 0 ∙ sym same.1)
          | inr apart ↦
              let e = kept_elsewhere old new page _ other keeps apart.1 in
              let w = is.within other in
              let l : kept_number old other - 1 < length pages = omega arith in
              rw e (get_or_append_left pages (page ∷ []) 0 _ l ∙ is.found other (omega arith))
        ]

-- a directory with one leaf put in place
put_leaf : (directory : List (Option (Box (List ℕ)))) (page other : ℕ) (leaf : Box (List ℕ)) → page / 1024 < length directory → kept_number (slice_set directory (page / 1024) (Some leaf)) other ≡ (if other / 1024 == page / 1024 then slice_index leaf.value (other % 1024) else kept_number directory other)
put_leaf directory page other leaf within =
    elim (eqb_tells (other / 1024) (page / 1024)) [
      | inl same ↦ rw same.0 (ap (λ i. leaf_number (get_or (slice_set directory (page / 1024) (Some leaf)) i None) (other % 1024)) same.1 ∙ ap (λ o. leaf_number o (other % 1024)) (get_or-set_same directory (page / 1024) (Some leaf) None within))
      | inr apart ↦ rw apart.0 (ap (λ o. leaf_number o (other % 1024)) (get_or-set_other directory (page / 1024) (other / 1024) (Some leaf) None apart.1))
    ]

-- a row of zeros with one number put in
in_filled : (n j k number : ℕ) → j < n → k < n → get_or (slice_set (replicate n 0) k number) j 0 ≡ (if j == k then number else 0)
in_filled n j k number h l =
    elim (eqb_tells j k) [
      | inl same ↦ rw same.0 (ap (λ i. get_or (slice_set (replicate n 0) k number) i 0) same.1 ∙ get_or-set_same (replicate n 0) k number 0 (rw (length-replicate {A = ℕ} n 0) l))
      | inr other ↦ rw other.0 (get_or-set_other (replicate n 0) k j number 0 other.1 ∙ get_or-replicate n j 0 0 h)
    ]

-- the same number at the same page and the same rest of it
in_page : (page other number before : ℕ) → other / 1024 ≡ page / 1024 → before ≡ 0 → (if other % 1024 == page % 1024 then number else 0) ≡ (if other == page then number else before)
in_page page other number before same zeroed =
    elim (eqb_tells (other % 1024) (page % 1024)) [
      | inl one ↦ rw one.0 (let e : other ≡ page = let r = one.1 in omega arith in rw (eq-eqb other page e) refl)
      | inr apart ↦ rw apart.0 (rw (ne_eqb other page (λ e. apart.1 (ap (λ p. p % 1024) e))) (sym zeroed))
    ]

-- a number written into a new leaf is kept
pub new_leaf : (directory : List (Option (Box (List ℕ)))) (page number : ℕ) (leaf : Box (List ℕ)) → page / 1024 < length directory → slice_index_or directory (page / 1024) None ≡ None → leaf.value ≡ slice_set (replicate 1024 0) (page % 1024) number → Keeps directory (slice_set directory (page / 1024) (Some leaf)) page number
new_leaf directory page number leaf within empty filled =
    record { wide = length-set directory (page / 1024) (Some leaf); numbers = λ other. put_leaf directory page other leaf within ∙ at other }
  where
    at : (other : ℕ) → (if other / 1024 == page / 1024 then slice_index leaf.value (other % 1024) else kept_number directory other) ≡ (if other == page then number else kept_number directory other)
    at other =
        elim (eqb_tells (other / 1024) (page / 1024)) [
          | inl same ↦ rw same.0 (ap (λ l. get_or l (other % 1024) 0) filled ∙ in_filled 1024 (other % 1024) (page % 1024) number (omega arith) (omega arith) ∙ in_page page other number (kept_number directory other) same.1 (ap (λ o. leaf_number o (other % 1024)) (ap (λ i. get_or directory i None) same.1 ∙ empty)))
          | inr apart ↦ rw apart.0 (rw (ne_eqb other page (λ e. apart.1 (ap (λ p. p / 1024) e))) refl)
        ]

-- a directory that was lent as a slice of its own length
pub lent : {A : Type 0} (old new : List A) (n : ℕ) → length new ≡ length old → n ≡ length old → take n (new ++ drop (length new) old) ≡ new
lent old new n same e = grind (arith, common_steps)

all_none : (n k : ℕ) → get_or {A = Option (Box (List ℕ))} (replicate n None) k None ≡ None
all_none zero k = refl
all_none (suc n) zero = refl
all_none (suc n) (suc k) = all_none n k

-- a directory of no leaf
pub no_leaf : (n page : ℕ) → kept_number (replicate n None) page ≡ 0
no_leaf n page = ap (λ o. leaf_number o (page % 1024)) (all_none n (page / 1024))

pub empty_index : (directory : List (Option (Box (List ℕ)))) → directory ≡ replicate 1024 None → Indexes directory []
empty_index directory e =
    record {
      wide = ap length e ∙ length-replicate {A = Option (Box (List ℕ))} 1024 None;
      small = λ k h. absurd (omega arith);
      listed = λ k h. absurd (omega arith);
      within = λ page. let zeroed : kept_number directory page ≡ 0 = ap (λ d. kept_number d page) e ∙ no_leaf 1024 page in omega arith;
      found = λ page some. let zeroed : kept_number directory page ≡ 0 = ap (λ d. kept_number d page) e ∙ no_leaf 1024 page in absurd (omega arith);
    }

-- one page fewer
pub one_less : (old new : List (Option (Box (List ℕ)))) (pages : List ℕ) (page : ℕ) → Indexes old (pages ++ page ∷ []) → Keeps old new page 0 → Indexes new pages
one_less old new pages page is keeps =
    let longer : length (pages ++ page ∷ []) ≡ length pages + 1 = length_push pages page in
    let last : slice_index (pages ++ page ∷ []) (length pages) ≡ page = get_or-append_seam pages page [] 0 in
    let at_last : kept_number old page ≡ length pages + 1 = subst (λ p. kept_number old p ≡ length pages + 1) last (is.listed (length pages) (omega arith)) in
    let gone : kept_number new page ≡ 0 = kept_here old new page 0 keeps in
    let number : (k : ℕ) → k < length pages → kept_number old (slice_index pages k) ≡ k + 1 = λ k h. subst (λ p. kept_number old p ≡ k + 1) (get_or_append_left pages (page ∷ []) 0 k h) (is.listed k (omega arith)) in
    let not_page : (k : ℕ) → k < length pages → slice_index pages k ≢ page = λ k h e. let at : kept_number old page ≡ k + 1 = subst (λ p. kept_number old p ≡ k + 1) e (number k h) in omega arith in
    record {
      wide = keeps.wide ∙ is.wide;
      small = λ k h. subst (λ p. p < 2 ^ 20) (get_or_append_left pages (page ∷ []) 0 k h) (is.small k (omega arith));
      listed = λ k h. kept_elsewhere old new page 0 (slice_index pages k) keeps (not_page k h) ∙ number k h;
      within = λ other. within_less other gone longer last;
      found = λ other some. found_less other gone longer last some;
    }
  where
    below_last : (other : ℕ) → other ≢ page → length (pages ++ page ∷ []) ≡ length pages + 1 → slice_index (pages ++ page ∷ []) (length pages) ≡ page → kept_number old other ≤ length pages
    below_last other apart longer last =
        elim (leb_tells (kept_number old other) (length pages)) [
          | inl low ↦ low.1
          | inr high ↦ let above = high.1 in let w = is.within other in let e : kept_number old other - 1 ≡ length pages = omega arith in absurd (apart (sym (is.found other (omega arith)) ∙ ap (λ i. slice_index (pages ++ page ∷ []) i) e ∙ last))
        ]

    within_less : (other : ℕ) → kept_number new page ≡ 0 → length (pages ++ page ∷ []) ≡ length pages + 1 → slice_index (pages ++ page ∷ []) (length pages) ≡ page → kept_number new other ≤ length pages
    within_less other gone longer last =
        elim (eqb_tells other page) [
          | inl same ↦ let e = ap (kept_number new) same.1 in omega arith
          | inr apart ↦ let e = kept_elsewhere old new page 0 other keeps apart.1 in let b = below_last other apart.1 longer last in omega arith
        ]

    found_less : (other : ℕ) → kept_number new page ≡ 0 → length (pages ++ page ∷ []) ≡ length pages + 1 → slice_index (pages ++ page ∷ []) (length pages) ≡ page → 0 < kept_number new other → slice_index pages (kept_number new other - 1) ≡ other
    found_less other gone longer last some =
        elim (eqb_tells other page) [
          | inl same ↦ let e = ap (kept_number new) same.1 in absurd (omega arith)
          | inr apart ↦
              let e = kept_elsewhere old new page 0 other keeps apart.1 in
              let b = below_last other apart.1 longer last in
              let l : kept_number old other - 1 < length pages = omega arith in
              rw e (sym (get_or_append_left pages (page ∷ []) 0 _ l) ∙ is.found other (omega arith))
        ]

-- a list that loses its last element, turn by turn
pub one_shorter : (l : List ℕ) (n : ℕ) → take (length (take (length l - n) l) - 1) (take (length l - n) l) ≡ take (length l - (n + 1)) l
one_shorter l n = let e = length-take-le (length l - n) l (omega arith) in rw e (take-take (length l - n - 1) (length l - n) l (omega arith) ∙ ap (λ k. take k l) (omega arith))

pub cut_off : (l : List ℕ) (n count : ℕ) → n ≡ length l - count → take (length l - n) l ≡ take count l
cut_off l n count e =
    elim (leb_tells count (length l)) [
      | inl low ↦ let at = low.1 in ap (λ k. take k l) (omega arith)
      | inr high ↦ let above = high.1 in take_all (length l - n) l (omega arith) ∙ sym (take_all count l (omega arith))
    ]

pub ruleset cuts = (one_shorter, cut_off)

-- nothing is kept for one page
pub keeps_one : (directory : List (Option (Box (List ℕ)))) (page : ℕ) → kept_number directory page ≡ 0 → KeepsNone directory page (page + 1)
keeps_one directory page none q low high = let same : q ≡ page = omega arith in ap (kept_number directory) same ∙ none

-- nothing is kept for the pages of a leaf that is not there
pub keeps_leaf : (directory : List (Option (Box (List ℕ)))) (page : ℕ) → slice_index_or directory (page / 1024) None ≡ None → KeepsNone directory page ((page / 1024 + 1) * 1024)
keeps_leaf directory page none q low high =
    let same : q / 1024 ≡ page / 1024 = omega arith in
    ap (λ o. leaf_number o (q % 1024)) (ap (λ i. slice_index_or directory i None) same ∙ none)

-- nothing is kept for pages that follow one another
pub keeps_more : (directory : List (Option (Box (List ℕ)))) (from amid end : ℕ) → KeepsNone directory from amid → KeepsNone directory amid end → KeepsNone directory from end
keeps_more directory from amid end first second q low high =
    elim (leb_tells amid q) [
      | inl past ↦ second q past.1 high
      | inr before ↦ first q low before.1
    ]

-- nothing is kept for fewer pages
pub keeps_fewer : (directory : List (Option (Box (List ℕ)))) (from end less : ℕ) → less ≤ end → KeepsNone directory from end → KeepsNone directory from less
keeps_fewer directory from end less fewer none q low high = none q low (omega (arith, fewer))

-- a page for which a number is kept is listed
pub some_listed : (directory : List (Option (Box (List ℕ)))) (pages : List ℕ) (found : Option ℕ) → Indexes directory pages → IfSome found (λ page. 0 < kept_number directory page) → IfSome found (λ page. is_some (position (λ listed. listed == page) pages) ≡ true)
some_listed directory pages None is kept = kept
some_listed directory pages (Some page) is kept = ap is_some (listed directory pages page is kept)

none_listed : (directory : List (Option (Box (List ℕ)))) (pages : List ℕ) (from end : ℕ) → Indexes directory pages → KeepsNone directory from end → (q : ℕ) → from ≤ q → q < end → position (λ listed. listed == q) pages ≡ None
none_listed directory pages from end is none q low high = unlisted directory pages q is (none q low high)

-- no page before the first one is listed
pub none_before : (directory : List (Option (Box (List ℕ)))) (pages : List ℕ) (from : ℕ) (found : Option ℕ) → Indexes directory pages → IfSome found (λ page. KeepsNone directory from page)
    → IfSome found (λ page. (q : ℕ) → from ≤ q → q < page → position (λ listed. listed == q) pages ≡ None)
none_before directory pages from None is none = none
none_before directory pages from (Some page) is none = none_listed directory pages from page is none

-- no page is listed where none was found
pub none_at_all : (directory : List (Option (Box (List ℕ)))) (pages : List ℕ) (from end : ℕ) (found : Option ℕ) → Indexes directory pages → IfNone found (KeepsNone directory from end)
    → IfNone found ((q : ℕ) → from ≤ q → q < end → position (λ listed. listed == q) pages ≡ None)
none_at_all directory pages from end None is none = none_listed directory pages from end is none
none_at_all directory pages from end (Some page) is none = none
