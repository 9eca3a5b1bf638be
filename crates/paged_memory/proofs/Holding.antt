-- Whether a cache holds a translation of a page.
use Rattle.std.proofs.Common.{◌≡◌, ◌≢◌, ℕ, Bool, true, false, ◌&&◌, sym, ap, ◌∙◌, eq-eqb, true≢false, List, [], ◌∷◌, Option, Some, None, refl}
use Rattle.std.specs.Prelude.{All, is_some, ◌||◌}
use Rattle.std.specs.List.{list_any}
use Rattle.std.proofs.lemmas.List.Elements.{All-nil, All-cons}
use Rattle.tlb_core.specs.declared.translation.Translation.{Translation}
use Rattle.tlb_core.specs.Cache.{translation_of, is_of_page, holds_mark}
use Rattle.tlb_core.proofs.CacheLaws.{All-none}
use Rattle.paged_memory.proofs.SoundnessLaws.{Unheld, Unmarked}
use Rattle.paged_memory.specs.Soundness.{is_held, is_marked}

-- a page whose dirty mark no cache has is unmarked
unmarked_in : (page : ℕ) (cache : List Translation) → holds_mark page cache ≡ false → All (λ t. t.page ≡ page → t.dirty ≡ false) cache
unmarked_in page [] none = All-nil _
unmarked_in page (x ∷ xs) none = by_test (is_of_page page x) refl (x.dirty) refl none (unmarked_in page xs)
  where
    by_test : (b : Bool) → is_of_page page x ≡ b → (d : Bool) → x.dirty ≡ d → (is_of_page page x && x.dirty || holds_mark page xs) ≡ false → (holds_mark page xs ≡ false → All (λ t. t.page ≡ page → t.dirty ≡ false) xs) → All (λ t. t.page ≡ page → t.dirty ≡ false) (x ∷ xs)
    by_test true of true is none later = let e : true ≡ false = sym (ap (λ b. b && x.dirty || holds_mark page xs) of ∙ ap (λ b. b || holds_mark page xs) is) ∙ none in cc
    by_test true of false is none later = All-cons (λ t. t.page ≡ page → t.dirty ≡ false) x xs (λ at. is) (later (sym (ap (λ b. b && x.dirty || holds_mark page xs) of ∙ ap (λ b. b || holds_mark page xs) is) ∙ none))
    by_test false of d is none later = All-cons (λ t. t.page ≡ page → t.dirty ≡ false) x xs (λ at. absurd (true≢false (sym (eq-eqb x.page page at) ∙ of))) (later (sym (ap (λ b. b && x.dirty || holds_mark page xs) of) ∙ none))

pub marked_by_none : (page : ℕ) (caches : List (List Translation)) → is_marked page caches ≡ false → Unmarked page caches
marked_by_none page [] none = All-nil _
marked_by_none page (cache ∷ caches) none = by_mark (holds_mark page cache) refl none (marked_by_none page caches)
  where
    by_mark : (b : Bool) → holds_mark page cache ≡ b → (b || is_marked page caches) ≡ false → (is_marked page caches ≡ false → Unmarked page caches) → Unmarked page (cache ∷ caches)
    by_mark true is rest later = cc
    by_mark false is rest later = All-cons (λ c. All (λ t. t.page ≡ page → t.dirty ≡ false) c) cache caches (unmarked_in page cache is) (later rest)

-- a page that no cache has an entry of is unheld
pub held_by_none : (page : ℕ) (caches : List (List Translation)) → is_held page caches ≡ false → Unheld page caches
held_by_none page [] none = All-nil _
held_by_none page (cache ∷ caches) none =
    by_entry (translation_of page cache) refl none (held_by_none page caches)
  where
    by_entry : (o : Option Translation) → translation_of page cache ≡ o → (is_some o || list_any (λ c. is_some (translation_of page c)) caches) ≡ false → (list_any (λ c. is_some (translation_of page c)) caches ≡ false → Unheld page caches) → Unheld page (cache ∷ caches)
    by_entry None is rest later = All-cons (λ c. All (λ t. t.page ≢ page) c) cache caches (All-none page cache is) (later rest)
    by_entry (Some t) is rest later = cc
