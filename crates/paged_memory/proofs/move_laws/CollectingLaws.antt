-- A look at a page that is to leave its frame.
use Rattle.std.specs.Prelude.{◌≡◌, ℕ, ◌^◌, ◌<◌, Bool, true, false, Option, Some, None, is_some, List, refl, ◌⊎◌}
use Rattle.std.proofs.Common.{sym, ap, ◌∙◌, subst, inl, inr, true≢false}
use Rattle.frame_pool.specs.FrameValue.{FrameValue}
use Rattle.page_memory.specs.Pages.{Page}
use Rattle.page_memory.specs.Rights.{may}
use Rattle.page_memory.specs.declared.words.Access.TheVariants.{Store}
use Rattle.page_store.specs.Keeping.{Keeping, NoSlot, Saved, Unbacked, Cleaning, CopyOut}
use Rattle.page_store.specs.declared.answer.Collected.{Collected}
use Rattle.page_store.specs.Moves.{CollectedPage, collected, let_go, with_spare, save_unbacked}
use Rattle.page_store.specs.PageValue.{PageValue, Place, Fresh, Resident, Leaving, Saving, Away, Purged, frame_of, shown, Backed, BackedAt}
use Rattle.sv32_table.specs.Entry.{Entry}
use Rattle.tlb_core.specs.declared.translation.Translation.{Translation}
use Rattle.paged_memory.specs.Soundness.{is_held}
use Rattle.paged_memory.specs.moves.Leaving.{lets_go, Collects, CollectsAt}
use Rattle.paged_memory.specs.Calls.{ChangesBy}
use Rattle.paged_memory.specs.Paged.{standing_of, page_at, flat_page, flat_pages, Holds, HoldsOrigin, IsConstant, IsUntouched, ChangesPage}
use Rattle.paged_memory.proofs.Holding.{held_by_none}
use Rattle.paged_memory.proofs.move_laws.PagedLaws.{memory_stays}
use Rattle.paged_memory.proofs.ConstancyLaws.{IsThere, unwritten_moved, unwritten_same, SameUnwritten}
use Rattle.paged_memory.proofs.move_laws.MovesLaws.{IsBlank, entry_blank, holds_same, holds_moved}

-- what is so of a page that a look lets go
pub record LetGo {L S : Type 0} (cached : Bool) (place : Place S) (after : CollectedPage L S) : Type 0 where
  pub uncached : cached ≡ false
  pub goes : lets_go after.1.1 ≡ true
  pub blank_then : IsBlank (standing_of place)
  pub blank_now : IsBlank (standing_of after.0)
  pub framed : is_some (frame_of after.0) ≡ true → is_some (frame_of place) ≡ true
  pub shows : (held : S → List ℕ) (origin : List ℕ) → BackedAt held origin false place → shown held origin after.0 ≡ shown held origin place
  pub backed : (held : S → List ℕ) (origin : List ℕ) → BackedAt held origin false after.0
  pub constant : (origin : List ℕ) → IsUntouched false origin place → IsUntouched false origin after.0
  pub there_then : IsThere place
  pub there_now : IsThere after.0

-- a page that is saved was touched
abbrev IsTouched : {S : Type 0} → Bool → FrameValue → Keeping S → Type 0
IsTouched mark frame slot = (origin : List ℕ) → HoldsOrigin mark origin frame slot → ⊥

module _ {L S : Type 0} (process vpn : ℕ) where
  abbrev pub Looked : Bool → Place S → CollectedPage L S → Type 0
  Looked cached place after = (after.0 ≡ place) ⊎ LetGo cached place after

  gone_spared : (frame : FrameValue) (slot : Keeping S) (mark : Bool) (spare : Option S) → IsTouched mark frame slot → Looked false (Leaving frame slot mark) (with_spare process vpn frame slot mark spare)
  gone_spared frame slot mark None touched = inl refl
  gone_spared frame slot mark (Some taken) touched = inr (record { uncached = refl; goes = refl; blank_then = λ r a d. refl; blank_now = λ r a d. refl; framed = λ h. refl; shows = λ held origin b. refl; backed = λ held origin h. cc; constant = λ origin is. absurd (touched origin is); there_then = tt; there_now = tt })

  gone_unbacked : (frame : FrameValue) (slot : Keeping S) (own : Option S) (mark : Bool) (spare : Option S) → IsTouched mark frame slot → Looked false (Leaving frame slot mark) (save_unbacked process vpn frame slot own mark spare)
  gone_unbacked frame slot None mark spare touched = gone_spared frame slot mark spare touched
  gone_unbacked frame slot (Some taken) mark spare touched = inr (record { uncached = refl; goes = refl; blank_then = λ r a d. refl; blank_now = λ r a d. refl; framed = λ h. refl; shows = λ held origin b. refl; backed = λ held origin h. cc; constant = λ origin is. absurd (touched origin is); there_then = tt; there_now = tt })

  gone : (frame : FrameValue) (slot : Keeping S) (mark : Bool) (spare : Option S) → Looked false (Leaving frame slot mark) (let_go process vpn frame slot mark spare)
  gone frame NoSlot false spare = inr (record { uncached = refl; goes = refl; blank_then = λ r a d. refl; blank_now = λ r a d. refl; framed = λ h. refl; shows = λ held origin b. sym (b refl); backed = λ held origin h. refl; constant = λ origin is. tt; there_then = tt; there_now = tt })
  gone frame NoSlot true spare = gone_spared frame NoSlot true spare (λ origin is. true≢false is.0)
  gone frame (Saved slot) false spare = inr (record { uncached = refl; goes = refl; blank_then = λ r a d. refl; blank_now = λ r a d. refl; framed = λ h. refl; shows = λ held origin b. sym (b refl); backed = λ held origin h. refl; constant = λ origin is. absurd is; there_then = tt; there_now = tt })
  gone frame (Saved slot) true spare = inr (record { uncached = refl; goes = refl; blank_then = λ r a d. refl; blank_now = λ r a d. refl; framed = λ h. refl; shows = λ held origin b. refl; backed = λ held origin h. cc; constant = λ origin is. absurd is; there_then = tt; there_now = tt })
  gone frame (Unbacked own) mark spare = gone_unbacked frame (Unbacked own) own mark spare (λ origin is. is)
  gone frame (Cleaning own) mark spare = gone_unbacked frame (Cleaning own) own mark spare (λ origin is. is)
  gone frame CopyOut mark spare = inl refl

  -- it stays, or no cache holds it and it is let go
  pub looked : (place : Place S) (cached : Bool) (spare : Option S) → Looked cached place (collected process vpn cached place spare)
  looked Fresh cached spare = inl refl
  looked (Resident frame slot) cached spare = inl refl
  looked (Leaving frame slot mark) true spare = inl refl
  looked (Leaving frame slot mark) false spare = gone frame slot mark spare
  looked (Saving frame mark) cached spare = inl refl
  looked (Away slot) cached spare = inl refl
  looked Purged cached spare = inl refl

  module _ (cached : Bool) (spare spare' : Option S) (answer : Collected L S) (page page' : PageValue S) (collects : Collects process vpn cached spare spare' answer page page') where
    pub looked_page : (page' ≡ page) ⊎ LetGo cached page.place (page'.place, (spare', answer))
    looked_page =
        elim (subst (Looked cached page.place) (sym collects.1) (looked page.place cached spare)) [
          | inl stays ↦ inl (ap (λ o. record { origin = o; place = page'.place }) collects.0 ∙ ap (λ p. record { origin = page.origin; place = p }) stays)
          | inr away ↦ inr away
        ]

    -- a page that is not let go is as it was
    pub not_gone : lets_go answer ≡ false → page' ≡ page
    not_gone left =
        elim looked_page [
          | inl stays ↦ stays
          | inr away ↦ let goes = away.goes in cc
        ]

  module _ {held : S → List ℕ} {honest : Type 0} {pages : List (ℕ × PageValue S)} {tables : List (List ℕ)} {caches : List (List Translation)} (spare spare' : Option S) (answer : Collected L S) (small : vpn < 2 ^ 20) (holds : Holds held honest pages tables caches) where
    abbrev pub Look : PageValue S → PageValue S → Type 0
    Look = Collects process vpn (is_held vpn caches) spare spare' answer

    backed_then : (page : PageValue S) → page_at pages vpn ≡ Some page → IsBlank (standing_of page.place) → honest → Backed held false page
    backed_then page found is is_honest = subst (λ (e : Entry). Backed held e.dirty page) (entry_blank vpn small holds page found is) (holds.backed is_honest vpn page small found)

    constant_gone : {pages' : List (ℕ × PageValue S)} (told : ChangesBy Look pages pages' vpn) → LetGo (is_held vpn caches) told.page.place (told.page'.place, (spare', answer)) → IsConstant false told.page'
    constant_gone told away =
        subst (λ (o : Page). may Store o.rights ≡ false → IsUntouched false o.bytes told.page'.place) (sym told.how.0)
        (λ fixed. away.constant told.page.origin.bytes
        (subst (λ (e : Entry). IsUntouched e.dirty told.page.origin.bytes told.page.place) (entry_blank vpn small holds told.page told.found away.blank_then)
        (holds.constant vpn told.page small told.found fixed)))

    holds_looked : {pages' : List (ℕ × PageValue S)} → ChangesBy Look pages pages' vpn → Holds held honest pages' tables caches
    holds_looked {pages'} told =
        elim (looked_page (is_held vpn caches) spare spare' answer told.page told.page' told.how) [
          | inl stays ↦ holds_same vpn small holds pages' told.page told.found (subst (ChangesPage pages pages' vpn) stays told.changes)
          | inr away ↦
              holds_moved vpn small holds pages' told.page told.page' told.found told.changes told.how.0 away.blank_then away.blank_now away.framed
              (λ is_honest. away.backed held told.page'.origin.bytes)
              (constant_gone told away)
              (held_by_none vpn caches away.uncached)
        ]

    memory_looked : {pages' : List (ℕ × PageValue S)} → ChangesBy Look pages pages' vpn → honest → flat_pages held pages' ≡ flat_pages held pages
    memory_looked {pages'} told is_honest =
        elim (looked_page (is_held vpn caches) spare spare' answer told.page told.page' told.how) [
          | inl stays ↦ memory_stays held pages pages' vpn told.page told.page' told.found (ap (flat_page held) stays) told.changes
          | inr away ↦
              memory_stays held pages pages' vpn told.page told.page' told.found
              (ap (λ (o : Page). record { rights = o.rights; bytes = shown held o.bytes told.page'.place }) told.how.0
              ∙ ap (λ b. record { rights = told.page.origin.rights; bytes = b }) (away.shows held told.page.origin.bytes (backed_then told.page told.found away.blank_then is_honest)))
              told.changes
        ]

    -- everything goes together still
    pub holds_collected : {pages' : List (ℕ × PageValue S)} (o : Option (PageValue S)) → CollectsAt process vpn (is_held vpn caches) spare spare' answer pages pages' o → Holds held honest pages' tables caches
    holds_collected (Some page) told = holds_looked told
    holds_collected None told = subst (λ p. Holds held honest p tables caches) (sym told.1.1) holds

    -- and what may not be written shows what it showed
    unwritten_looked : {pages' : List (ℕ × PageValue S)} → ChangesBy Look pages pages' vpn → SameUnwritten (flat_pages held pages) (flat_pages held pages')
    unwritten_looked {pages'} told =
        elim (looked_page (is_held vpn caches) spare spare' answer told.page told.page' told.how) [
          | inl stays ↦ unwritten_same held pages pages' (memory_stays held pages pages' vpn told.page told.page' told.found (ap (flat_page held) stays) told.changes)
          | inr away ↦ unwritten_moved held vpn small holds (holds_looked told) told.page told.page' told.found told.changes told.how.0 away.there_then away.there_now
        ]

    pub unwritten_collected : (pages' : List (ℕ × PageValue S)) (o : Option (PageValue S)) → CollectsAt process vpn (is_held vpn caches) spare spare' answer pages pages' o → SameUnwritten (flat_pages held pages) (flat_pages held pages')
    unwritten_collected pages' (Some page) told = unwritten_looked told
    unwritten_collected pages' None told = unwritten_same held pages pages' (ap (flat_pages held) told.1.1)

    -- and what the memory holds stays
    pub memory_collected : (pages' : List (ℕ × PageValue S)) (o : Option (PageValue S)) → CollectsAt process vpn (is_held vpn caches) spare spare' answer pages pages' o → honest → flat_pages held pages' ≡ flat_pages held pages
    memory_collected pages' (Some page) told is_honest = memory_looked told is_honest
    memory_collected pages' None told is_honest = ap (flat_pages held) told.1.1
