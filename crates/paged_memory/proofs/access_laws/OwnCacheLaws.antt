-- A hart's cache over several of its accesses.
use Rattle.std.specs.Prelude.{◌≡◌, ◌≢◌, ℕ, ◌==◌, ◌||◌, ◌⊎◌, Bool, true, false, Some, List, [], ◌∷◌, ◌++◌, Contains, refl}
use Rattle.std.proofs.Common.{sym, ap, ◌∙◌, subst, inl, inr, true≢false, eqb-true, eq-eqb}
use Rattle.std.proofs.lemmas.List.Elements.{All-nil, All-cons, All-append, All-weaker, All-contains_itself}
use Rattle.std.proofs.lemmas.Option.{same_Some}
use Rattle.sv32_table.specs.EntryAt.{entry_at, dirty_of}
use Rattle.tlb_core.specs.declared.translation.Translation.{Translation}
use Rattle.tlb_core.specs.Cache.{OnePerPage, filled, translation_of}
use Rattle.tlb_core.proofs.CacheLaws.{All-entry_of, All-filled, filled_finds, found_at, page-entry_of}
use Rattle.paged_memory.specs.access.OwnCache.{fills, fills_of, EachMissed, FilledFrom, MissesOne, KeepsDoomed, CarriesDirty, GoesOn, WalkFills, MayFill}

-- translations that are filled behind others
pub fills-append : (first second cache : List Translation) → fills (first ++ second) cache ≡ fills second (fills first cache)
unfolding fills
fills-append [] second cache = refl
fills-append (t ∷ first) second cache = fills-append first second (filled t cache)

fills_none : (cache : List Translation) → fills [] cache ≡ cache
unfolding fills
fills_none cache = refl

fills_one : (t : Translation) (cache : List Translation) → fills (t ∷ []) cache ≡ filled t cache
unfolding fills
fills_one t cache = refl

-- each was missed

missed_none : (cache : List Translation) → EachMissed [] cache
unfolding EachMissed
missed_none cache = tt

missed_one : (t : Translation) (cache : List Translation) → MissesOne cache t → EachMissed (t ∷ []) cache
unfolding EachMissed
missed_one t cache misses = (misses, tt)

pub missed-append : (first second cache : List Translation) → EachMissed first cache → EachMissed second (fills first cache) → EachMissed (first ++ second) cache
unfolding EachMissed fills
missed-append [] second cache none missed = missed
missed-append (t ∷ first) second cache some missed = (some.0, missed-append first second (filled t cache) some.1 missed)

-- a page of one of them

pub or_more : (a b : Bool) → b ≡ true → (a || b) ≡ true
or_more true b is = refl
or_more false b is = is

of_one : (t : Translation) (page : ℕ) → (t.page == page) ≡ true → fills_of (t ∷ []) page ≡ true
unfolding fills_of
of_one t page is = ap (λ b. b || false) is

pub of_first : (first second : List Translation) (page : ℕ) → fills_of first page ≡ true → fills_of (first ++ second) page ≡ true
unfolding fills_of
of_first [] second page is = cc
of_first (t ∷ first) second page is = elim (t.page == page) as (λ b. (b || fills_of first page) ≡ true → (b || fills_of (first ++ second) page) ≡ true) [ true ↦ λ _. refl | false ↦ λ h. of_first first second page h ] is

pub of_second : (first second : List Translation) (page : ℕ) → fills_of second page ≡ true → fills_of (first ++ second) page ≡ true
unfolding fills_of
of_second [] second page is = is
of_second (t ∷ first) second page is = or_more (t.page == page) (fills_of (first ++ second) page) (of_second first second page is)

-- a translation of another page that is found after one was filled was found before
found_before : (e t : Translation) (q : ℕ) (cache : List Translation) → OnePerPage cache → q ≢ e.page → translation_of q (filled e cache) ≡ Some t → translation_of q cache ≡ Some t
found_before e t q cache apart other found =
    let of : t.page ≡ q = page-entry_of q (filled e cache) t found in
    let either : (e ≡ t) ⊎ Contains cache t =
    All-entry_of (λ x. (e ≡ x) ⊎ Contains cache x) q (filled e cache) t
    (All-filled (λ x. (e ≡ x) ⊎ Contains cache x) e cache (inl refl) (All-weaker (Contains cache) (λ x. (e ≡ x) ⊎ Contains cache x) (λ x here. inr here) cache (All-contains_itself cache))) found in
    elim either [
      | inl same ↦ absurd (other (sym of ∙ ap (λ (x : Translation). x.page) (sym same)))
      | inr there ↦ found_at q cache there.0 t apart there.1 (sym there.2) of
    ]

-- ---- translations that were filled since

pub filled_itself : (test : ℕ → Bool) (cache : List Translation) → FilledFrom test cache cache
filled_itself test cache = record { more = []; of_pages = All-nil _; live = All-nil _; missed = missed_none cache; is = sym (fills_none cache) }

unfoldable pub filled_on : (test : ℕ → Bool) (old between new : List Translation) → FilledFrom test old between → FilledFrom test between new → FilledFrom test old new
filled_on test old between new first second = record {
  more = first.more ++ second.more;
  of_pages = All-append (λ (t : Translation). test t.page ≡ true) first.more second.more first.of_pages second.of_pages;
  live = All-append (λ (t : Translation). t.doomed ≡ false) first.more second.more first.live second.live;
  missed = missed-append first.more second.more old first.missed (subst (EachMissed second.more) first.is second.missed);
  is = second.is ∙ ap (fills second.more) first.is ∙ sym (fills-append first.more second.more old);
}

-- of an access to a page that passes
pub filled_page : (test : ℕ → Bool) (page : ℕ) (tables tables' : List (List ℕ)) (old new : List Translation) → test page ≡ true → MayFill page tables tables' old new → FilledFrom test old new
filled_page test page tables tables' old new passes (inl same) = subst (λ cache. FilledFrom test old cache) (sym same.1) (filled_itself test old)
filled_page test page tables tables' old new passes (inr walk) = record {
  more = walk.entry ∷ [];
  of_pages = All-cons (λ (t : Translation). test t.page ≡ true) walk.entry [] (ap test walk.page_is ∙ passes) (All-nil _);
  live = All-cons (λ (t : Translation). t.doomed ≡ false) walk.entry [] walk.live (All-nil _);
  missed = missed_one walk.entry old walk.missed;
  is = walk.is ∙ sym (fills_one walk.entry old);
}

-- ---- a hart goes on with its translations

pub goes_itself : (tables : List (List ℕ)) (cache : List Translation) → GoesOn tables tables cache cache
goes_itself tables cache = record {
  filled = filled_itself (λ _. true) cache;
  doomed = λ page t found is. found;
  carried = λ page t small found. inl (found, refl);
  raised = λ page small. inr refl;
}

pub doomed_on : (old between new : List Translation) → KeepsDoomed old between → KeepsDoomed between new → KeepsDoomed old new
doomed_on old between new first second = λ page t found is. first page t (second page t found is) is

carried_on : (tables tables' tables'' : List (List ℕ)) (old between new : List Translation) → CarriesDirty tables tables' old between → CarriesDirty tables' tables'' between new → CarriesDirty tables tables'' old new
carried_on tables tables' tables'' old between new first second = λ page t small found. elim (second page t small found) [
  | inl there ↦ elim (first page t small there.0) [
    | inl kept ↦ inl (kept.0, there.1 ∙ kept.1)
    | inr walked ↦ inr (walked.0, walked.1 ∙ sym there.1)
  ]
  | inr walked ↦ inr walked
]

pub goes_on : (tables tables' tables'' : List (List ℕ)) (old between new : List Translation) → GoesOn tables tables' old between → GoesOn tables' tables'' between new → GoesOn tables tables'' old new
unfolding filled_on
goes_on tables tables' tables'' old between new first second = record {
  filled = filled_on (λ _. true) old between new first.filled second.filled;
  doomed = doomed_on old between new first.doomed second.doomed;
  carried = carried_on tables tables' tables'' old between new first.carried second.carried;
  raised = λ page small. elim (first.raised page small) [
    | inl one ↦ inl (of_first first.filled.more second.filled.more page one)
    | inr same ↦ elim (second.raised page small) [ inl one ↦ inl (of_second first.filled.more second.filled.more page one) | inr same' ↦ inr (same' ∙ same) ]
  ];
}

-- over one access
module _ (page : ℕ) (tables tables' : List (List ℕ)) (old new : List Translation) where
  walk_doomed : WalkFills page tables tables' old new → KeepsDoomed old new
  walk_doomed walk q t found is = by_page (q == page) refl
    where
      found_filled : translation_of q (filled walk.entry old) ≡ Some t
      found_filled = ap (translation_of q) (sym walk.is) ∙ found

      by_page : (b : Bool) → (q == page) ≡ b → translation_of q old ≡ Some t
      by_page true same =
          let here : q ≡ walk.entry.page = eqb-true q page same ∙ sym walk.page_is in
          let own : walk.entry ≡ t = same_Some _ _ (sym (filled_finds walk.entry old) ∙ ap (λ n. translation_of n (filled walk.entry old)) (sym here) ∙ found_filled) in
          absurd (true≢false (sym is ∙ ap (λ (x : Translation). x.doomed) (sym own) ∙ walk.live))
      by_page false other =
          found_before walk.entry t q old walk.apart (λ e. true≢false (sym (eq-eqb q page (e ∙ walk.page_is)) ∙ other)) found_filled

  walk_carried : WalkFills page tables tables' old new → CarriesDirty tables tables' old new
  walk_carried walk q t small found = by_page (q == page) refl
    where
      found_filled : translation_of q (filled walk.entry old) ≡ Some t
      found_filled = ap (translation_of q) (sym walk.is) ∙ found

      by_page : (b : Bool) → (q == page) ≡ b
          → ((translation_of q old ≡ Some t) × (dirty_of (entry_at tables' q) ≡ dirty_of (entry_at tables q))) ⊎ ((t.doomed ≡ false) × (t.dirty ≡ dirty_of (entry_at tables' q)))
      by_page true same =
          let here : q ≡ walk.entry.page = eqb-true q page same ∙ sym walk.page_is in
          let own : walk.entry ≡ t = same_Some _ _ (sym (filled_finds walk.entry old) ∙ ap (λ n. translation_of n (filled walk.entry old)) (sym here) ∙ found_filled) in
          inr (ap (λ (x : Translation). x.doomed) (sym own) ∙ walk.live, ap (λ (x : Translation). x.dirty) (sym own) ∙ walk.dirty ∙ ap (λ n. dirty_of (entry_at tables' n)) (sym (eqb-true q page same)))
      by_page false other =
          let apart : q ≢ page = λ e. true≢false (sym (eq-eqb q page e) ∙ other) in
          inl (found_before walk.entry t q old walk.apart (λ e. apart (e ∙ walk.page_is)) found_filled, ap dirty_of (walk.rest q small apart))

  pub goes_filled : MayFill page tables tables' old new → GoesOn tables tables' old new
  unfolding filled_page
  goes_filled (inl same) = subst (λ (t : List (List ℕ)). GoesOn tables t old new) (sym same.0) (subst (λ (c : List Translation). GoesOn tables tables old c) (sym same.1) (goes_itself tables old))
  goes_filled (inr walk) = record {
    filled = filled_page (λ _. true) page tables tables' old new refl (inr walk);
    doomed = walk_doomed walk;
    carried = walk_carried walk;
    raised = λ q small. elim (q == page) as (λ b. (q == page) ≡ b → (fills_of (walk.entry ∷ []) q ≡ true) ⊎ (entry_at tables' q ≡ entry_at tables q)) [
      | true ↦ λ same. inl (of_one walk.entry q (eq-eqb walk.entry.page q (walk.page_is ∙ sym (eqb-true q page same))))
      | false ↦ λ other. inr (walk.rest q small (λ e. true≢false (sym (eq-eqb q page e) ∙ other)))
    ] refl;
  }
