-- Laws of what accesses, slices and notices say of a process's memory as a whole.
use Rattle.std.specs.Prelude.{◌≡◌, ℕ, zero, suc, Bool, true, List, [], ◌∷◌, ◌++◌, is_some, length, map, slice_set, refl}
use Rattle.std.proofs.Common.{◌∙◌, ap, subst, sym}
use Rattle.tlb_core.specs.declared.translation.Translation.{Translation}
use Rattle.tlb_core.specs.Cache.{translation_of}
use Rattle.paged_memory.specs.access.Access.{cache_of, is_resident}
use Rattle.paged_memory.specs.Fresh.{AddsHart}
use Rattle.paged_memory.specs.access.HartMemory.{KeepsAccess, MarksWithin}
use Rattle.paged_memory.proofs.access_laws.HartMemoryLaws.{pages_itself, pages_on, lacked, had_resident, had}
use Rattle.paged_memory.specs.moves.Moving.{SameCaches, SameEntries, OnlyCaches, OnlyPages}
use Rattle.paged_memory.specs.access.Notices.{cleared, emptied}
use Rattle.paged_memory.specs.Paged.{PagedValue, memory_of, seen_at}
use Rattle.paged_memory.specs.access.OwnCache.{GoesOn}
use Rattle.paged_memory.proofs.access_laws.OwnCacheLaws.{goes_itself, goes_on}
use Rattle.paged_memory.specs.access.Using.{HasIn, LacksIn, MarkedIn, KeepsIn, SameCache, HoldsNone, GoesOnIn, cache_in, holds_in}
use Rattle.paged_memory.specs.Whole.{harts_in}

-- an empty cache for one more hart shows as none did
with_empty : (caches : List (List Translation)) (h : ℕ) → cache_of (caches ++ [] ∷ []) h ≡ cache_of caches h
with_empty [] zero = refl
with_empty [] (suc h) = refl
with_empty (c ∷ cs) zero = refl
with_empty (c ∷ cs) (suc h) = with_empty cs h

own_emptied : (caches : List (List Translation)) (hart : ℕ) → cache_of (slice_set caches hart []) hart ≡ []
own_emptied [] hart = refl
own_emptied (c ∷ cs) zero = refl
own_emptied (c ∷ cs) (suc hart) = own_emptied cs hart

all_emptied : (caches : List (List Translation)) (h : ℕ) → cache_of (map (λ _. []) caches) h ≡ []
all_emptied [] h = refl
all_emptied (c ∷ cs) zero = refl
all_emptied (c ∷ cs) (suc h) = all_emptied cs h

module _ {S : Type 0} where
  pub kept_itself : (memory : PagedValue S) → KeepsIn memory memory
  kept_itself memory = pages_itself memory.pages

  pub kept_on : (old between new : PagedValue S) → KeepsIn old between → KeepsIn between new → KeepsIn old new
  kept_on old between new first second = pages_on old.pages between.pages new.pages first second

  -- what is lacking now was lacking
  pub lacked_in : (old new : PagedValue S) (page : ℕ) → KeepsIn old new → LacksIn new page → LacksIn old page
  lacked_in old new page kept lacks = lacked old.pages new.pages page kept lacks

  -- what a hart has now it had, where that is so of what its cache holds
  pub had_in : (hart page : ℕ) (old new : PagedValue S) → KeepsAccess hart old new → HasIn new hart page → HasIn old hart page
  had_in hart page old new kept has = had hart page old new kept has

  pub resident_in : (old new : PagedValue S) (page : ℕ) → KeepsIn old new → is_resident (seen_at new.pages page) ≡ true → is_resident (seen_at old.pages page) ≡ true
  resident_in old new page kept is = had_resident old.pages new.pages page kept is

  -- where no mark changed, what is said of the marks now was so before
  pub same_marks : (old new : PagedValue S) (P : ((ℕ → Bool) → (ℕ → Bool) → Type 0) → Type 0) → SameEntries old new → P (MarkedIn new) → P (MarkedIn old)
  same_marks old new P same holds = subst (λ t. P (MarksWithin t)) same holds

  -- ---- harts' caches

  -- one more hart's cache leaves those of the others, and its own shows as none did
  pub added_cache : (h : ℕ) (old new : PagedValue S) → AddsHart old new → SameCache h old new
  added_cache h old new adds = ap (λ (m : PagedValue S). cache_in m h) adds ∙ with_empty old.caches h

  pub cleared_own : (hart : ℕ) (memory : PagedValue S) → HoldsNone hart (cleared hart memory)
  cleared_own hart memory = own_emptied memory.caches hart

  pub emptied_each : (h : ℕ) (memory : PagedValue S) → HoldsNone h (emptied memory)
  emptied_each h memory = all_emptied memory.caches h

  -- a cache that is what it was holds what it held
  pub same_held : (hart page : ℕ) (old new : PagedValue S) → SameCache hart old new → holds_in new hart page ≡ holds_in old hart page
  same_held hart page old new same = ap (λ cache. is_some (translation_of page cache)) same

  -- a hart goes on with what it has, over accesses of its own, and where tables and its cache are what they were
  pub goes_itself_in : (hart : ℕ) (memory : PagedValue S) → GoesOnIn hart memory memory
  goes_itself_in hart memory = goes_itself memory.tables (cache_in memory hart)

  pub goes_on_in : (hart : ℕ) (old between new : PagedValue S) → GoesOnIn hart old between → GoesOnIn hart between new → GoesOnIn hart old new
  goes_on_in hart old between new first second = goes_on old.tables between.tables new.tables (cache_in old hart) (cache_in between hart) (cache_in new hart) first second

  pub goes_same : (hart : ℕ) (old between new : PagedValue S) → GoesOnIn hart old between → SameEntries between new → SameCache hart between new → GoesOnIn hart old new
  goes_same hart old between new goes entries same =
      subst (λ tables. GoesOn old.tables tables (cache_in old hart) (cache_in new hart)) (sym entries) (subst (λ cache. GoesOn old.tables between.tables (cache_in old hart) cache) (sym same) goes)

  -- ---- nothing but the caches changed

  pub caches_on : (old between new : PagedValue S) → OnlyCaches old between → OnlyCaches between new → OnlyCaches old new
  caches_on old between new first second = second ∙ ap (λ (m : PagedValue S). record m { caches = new.caches }) first

  pub caches_shown : (held : S → List ℕ) (old new : PagedValue S) → OnlyCaches old new → memory_of held new ≡ memory_of held old
  caches_shown held old new only = ap (memory_of held) only

  pub caches_marks : (old new : PagedValue S) → OnlyCaches old new → SameEntries old new
  caches_marks old new only = ap (λ (m : PagedValue S). m.tables) only

  pub same_harts : (old new : PagedValue S) → SameCaches old new → harts_in new ≡ harts_in old
  same_harts old new same = ap length same

  -- ---- nothing but the pages changed

  pub pages_harts : (old new : PagedValue S) → OnlyPages old new → harts_in new ≡ harts_in old
  pages_harts old new only = ap (λ (m : PagedValue S). length m.caches) only
