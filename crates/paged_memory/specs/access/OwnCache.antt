-- What a hart's accesses do to its own cache: translations are filled, and none goes but to make room or for a newer one of its page.
use Rattle.std.specs.Prelude.{◌≡◌, ◌≢◌, ℕ, ◌^◌, ◌<◌, ◌==◌, ◌||◌, ◌⊎◌, Bool, true, false, Some, List, [], ◌∷◌, All}
use Rattle.sv32_table.specs.EntryAt.{entry_at, dirty_of}
use Rattle.tlb_core.specs.declared.translation.Translation.{Translation}
use Rattle.tlb_core.specs.Cache.{Hits, OnePerPage, filled, translation_of}
use Rattle.page_memory.specs.declared.words.Access.{Access}
use Rattle.page_memory.specs.Rights.{may}

-- translations are filled into a cache, one after another
unfoldable pub fills : List Translation → List Translation → List Translation
fills [] cache = cache
fills (t ∷ ts) cache = fills ts (filled t cache)

-- a cache does not show a translation's page for one of the accesses that the translation has the right for; a translation that is to be
-- dropped shows it as well
abbrev pub MissesOne : List Translation → Translation → Type 0
MissesOne cache t = (access : Access) × ((may access t.rights ≡ true) × ((place : ℕ) → ¬ Hits cache access t.page place))

-- translations are filled one after another, each into a cache that did not show its page for an access
unfoldable pub EachMissed : List Translation → List Translation → Type 0
EachMissed [] cache = Unit {0}
EachMissed (t ∷ ts) cache = MissesOne cache t × EachMissed ts (filled t cache)

-- a cache is another one into which translations were filled since, each of a page that passes a test, where an access missed it, and none
-- to be dropped: no translation was dropped but the oldest of a full cache, and one of a page that was filled again
pub record FilledFrom (test : ℕ → Bool) (old new : List Translation) : Type 0 where
  pub more : List Translation
  pub of_pages : All (λ (t : Translation). test t.page ≡ true) more
  pub live : All (λ (t : Translation). t.doomed ≡ false) more
  pub missed : EachMissed more old
  pub is : new ≡ fills more old

-- each translation that is to be dropped was there, and was to be dropped
abbrev pub KeepsDoomed : List Translation → List Translation → Type 0
KeepsDoomed old new = (page : ℕ) (t : Translation) → translation_of page new ≡ Some t → t.doomed ≡ true → translation_of page old ≡ Some t

-- a page's translation was there and the page's D is what it was, or a walk filled it and it carries D as it is now
abbrev pub CarriesDirty : List (List ℕ) → List (List ℕ) → List Translation → List Translation → Type 0
CarriesDirty tables tables' old new =
    (page : ℕ) (t : Translation) → page < 2 ^ 20 → translation_of page new ≡ Some t
    → ((translation_of page old ≡ Some t) × (dirty_of (entry_at tables' page) ≡ dirty_of (entry_at tables page)))
    ⊎ ((t.doomed ≡ false) × (t.dirty ≡ dirty_of (entry_at tables' page)))

-- whether a translation of a page is among some
unfoldable pub fills_of : List Translation → ℕ → Bool
fills_of [] page = false
fills_of (t ∷ ts) page = (t.page == page) || fills_of ts page

-- a hart goes on with its translations, over accesses of its own; no table entry changes but of a page that a translation was filled of
pub record GoesOn (tables tables' : List (List ℕ)) (old new : List Translation) : Type 0 where
  pub filled : FilledFrom (λ _. true) old new
  pub doomed : KeepsDoomed old new
  pub carried : CarriesDirty tables tables' old new
  pub raised : (page : ℕ) → page < 2 ^ 20 → (fills_of filled.more page ≡ true) ⊎ (entry_at tables' page ≡ entry_at tables page)

-- a walk fills a translation of the page, which the cache did not show for an access, and which carries the page's D as the walk leaves it;
-- no other page's entry changes
pub record WalkFills (page : ℕ) (tables tables' : List (List ℕ)) (old new : List Translation) : Type 0 where
  pub entry : Translation
  pub page_is : entry.page ≡ page
  pub live : entry.doomed ≡ false
  pub dirty : entry.dirty ≡ dirty_of (entry_at tables' page)
  pub rest : (q : ℕ) → q < 2 ^ 20 → q ≢ page → entry_at tables' q ≡ entry_at tables q
  pub apart : OnePerPage old
  pub missed : MissesOne old entry
  pub is : new ≡ filled entry old

-- neither the tables nor the cache change, or a walk fills a translation of the page
abbrev pub MayFill : ℕ → List (List ℕ) → List (List ℕ) → List Translation → List Translation → Type 0
MayFill page tables tables' old new = ((tables' ≡ tables) × (new ≡ old)) ⊎ WalkFills page tables tables' old new
