-- A hart's cache showed a page that it used.
use Rattle.std.proofs.Common.{◌≡◌, ◌≢◌, ◌⊎◌, ℕ, ◌==◌, ◌||◌, Bool, true, false, List, [], ◌∷◌, Option, Some, None, is_some, inl, inr, refl, sym, ap, ◌∙◌, subst, true≢false, eq-eqb}
use Rattle.std.proofs.Math.Logic.{∥∥₁_map}
use Rattle.tlb_core.specs.declared.translation.Translation.{Translation}
use Rattle.tlb_core.specs.Cache.{filled, translation_of}
use Rattle.tlb_core.proofs.CacheLaws.{All-filled, All-none, none-All}
use Rattle.page_memory.specs.declared.words.Access.{Access}
use Rattle.paged_memory.specs.access.Access.{Serves}
use Rattle.paged_memory.specs.access.HartMemory.{WasShown}
use Rattle.paged_memory.specs.access.OwnCache.{fills, fills_of, FilledFrom}
use Rattle.paged_memory.proofs.access_laws.OwnCacheLaws.{filled_on, of_first, of_second, or_more}

-- a page that is there once a translation was filled was there, or is that one's
there_before : (t : Translation) (page : ℕ) (cache : List Translation) → is_some (translation_of page (filled t cache)) ≡ true → (is_some (translation_of page cache) ≡ true) ⊎ ((t.page == page) ≡ true)
there_before t page cache there = by_page (t.page == page) refl (translation_of page cache) refl
  where
    by_page : (b : Bool) → (t.page == page) ≡ b → (o : Option Translation) → translation_of page cache ≡ o → (is_some (translation_of page cache) ≡ true) ⊎ ((t.page == page) ≡ true)
    by_page true same o was = inr same
    by_page false other (Some found) was = inl (ap is_some was)
    by_page false other None was =
        let apart : t.page ≢ page = λ e. true≢false (sym (eq-eqb t.page page e) ∙ other) in
        let gone = none-All page _ (All-filled (λ u. u.page ≢ page) t cache apart (All-none page cache was)) in
        absurd (true≢false (sym there ∙ ap is_some gone))

-- the same of several
shown_before : (more : List Translation) (page : ℕ) (cache : List Translation) → is_some (translation_of page (fills more cache)) ≡ true → (is_some (translation_of page cache) ≡ true) ⊎ (fills_of more page ≡ true)
unfolding fills fills_of
shown_before [] page cache there = inl there
shown_before (t ∷ more) page cache there = elim (shown_before more page (filled t cache) there) [
  | inr one ↦ inr (or_more (t.page == page) (fills_of more page) one)
  | inl here ↦ elim (there_before t page cache here) [
    | inl was ↦ inl was
    | inr same ↦ inr (ap (λ b. b || fills_of more page) same)
  ]
]

pub was_shown : (opening cache : List Translation) (page : ℕ) → FilledFrom (λ _. true) opening cache → is_some (translation_of page cache) ≡ true → WasShown opening cache page
was_shown opening cache page filled there = ∣ record { filled = filled; shown = shown_before filled.more page opening (subst (λ c. is_some (translation_of page c) ≡ true) filled.is there) } ∣₁

pub serves_shown : (opening cache : List Translation) (access : Access) (page : ℕ) → FilledFrom (λ _. true) opening cache → Serves cache access page → WasShown opening cache page
serves_shown opening cache access page filled served = was_shown opening cache page filled (ap is_some served.hits.found)

-- what a turn showed that began behind another one of the hart that one showed
pub shown_back : (opening between cache : List Translation) (page : ℕ) → FilledFrom (λ _. true) opening between → WasShown between cache page → WasShown opening cache page
unfolding filled_on
shown_back opening between cache page first was = ∥∥₁_map was (λ last. record {
  filled = filled_on (λ _. true) opening between cache first last.filled;
  shown = elim last.shown [
    | inl there ↦ elim (shown_before first.more page opening (subst (λ c. is_some (translation_of page c) ≡ true) first.is there)) [ inl before ↦ inl before | inr one ↦ inr (of_first first.more last.filled.more page one) ]
    | inr one ↦ inr (of_second first.more last.filled.more page one)
  ];
})
