-- A page that may not be written shows what it began with, whatever slots are.
use Rattle.std.specs.Prelude.{◌≡◌, ℕ, ◌^◌, ◌<◌, ◌==◌, Bool, true, false, Some, option_map, List, refl}
use Rattle.std.proofs.Common.{sym, ap, ◌∙◌, eqb-true}
use Rattle.std.proofs.lemmas.Option.{same_Some}
use Rattle.std.specs.FinMap.{get}
use Rattle.page_memory.specs.Pages.{Page, Pages}
use Rattle.page_memory.specs.Rights.{may}
use Rattle.page_memory.proofs.StandsForLaws.{get-map_by-place}
use Rattle.page_memory.specs.declared.words.Access.TheVariants.{Store}
use Rattle.page_store.specs.Keeping.{NoSlot, Saved, Unbacked, Cleaning, CopyOut}
use Rattle.page_store.specs.PageValue.{PageValue, Place, Fresh, Resident, Leaving, Saving, Away, Purged, shown}
use Rattle.tlb_core.specs.declared.translation.Translation.{Translation}
use Rattle.sv32_table.specs.EntryAt.{entry_at}
use Rattle.paged_memory.specs.Paged.{page_at, flat_page, flat_pages, Holds, IsUntouched, ChangesPage}
use Rattle.paged_memory.proofs.move_laws.PagedLaws.{choice_here, choice_other}

-- the pages of one memory that may not be written are in another, as they are
abbrev pub SameUnwritten : Pages → Pages → Type 0
SameUnwritten old new = (number : ℕ) (page : Page) → get old number ≡ Some page → may Store page.rights ≡ false → get new number ≡ Some page

-- a page was not given up
abbrev pub IsThere : {S : Type 0} → Place S → Type 0
IsThere Fresh = Unit {0}
IsThere (Resident frame slot) = Unit {0}
IsThere (Leaving frame slot mark) = Unit {0}
IsThere (Saving frame mark) = Unit {0}
IsThere (Away copy) = Unit {0}
IsThere Purged = ⊥

module _ {S : Type 0} (held : S → List ℕ) where
  shown_untouched : (dirty : Bool) (origin : List ℕ) (place : Place S) → IsThere place → IsUntouched dirty origin place → shown held origin place ≡ origin
  shown_untouched dirty origin Fresh there is = refl
  shown_untouched dirty origin (Resident frame NoSlot) there is = is.1
  shown_untouched dirty origin (Resident frame (Saved copy)) there is = absurd is
  shown_untouched dirty origin (Resident frame (Unbacked slot)) there is = absurd is
  shown_untouched dirty origin (Resident frame (Cleaning slot)) there is = absurd is
  shown_untouched dirty origin (Resident frame CopyOut) there is = absurd is
  shown_untouched dirty origin (Leaving frame NoSlot mark) there is = is.1
  shown_untouched dirty origin (Leaving frame (Saved copy) mark) there is = absurd is
  shown_untouched dirty origin (Leaving frame (Unbacked slot) mark) there is = absurd is
  shown_untouched dirty origin (Leaving frame (Cleaning slot) mark) there is = absurd is
  shown_untouched dirty origin (Leaving frame CopyOut mark) there is = absurd is
  shown_untouched dirty origin (Saving frame mark) there is = absurd is
  shown_untouched dirty origin (Away copy) there is = absurd is
  shown_untouched dirty origin Purged there is = absurd there

  get-shown : (pages : List (ℕ × PageValue S)) (number : ℕ) → get (flat_pages held pages) number ≡ option_map (flat_page held) (page_at pages number)
  unfolding flat_pages page_at
  get-shown pages number = get-map_by-place (flat_page held) pages number

  pub unwritten_same : (pages pages' : List (ℕ × PageValue S)) → flat_pages held pages' ≡ flat_pages held pages → SameUnwritten (flat_pages held pages) (flat_pages held pages')
  unwritten_same pages pages' same number page found fixed = ap (λ p. get p number) same ∙ found

  module _ {honest : Type 0} {pages pages' : List (ℕ × PageValue S)} {tables tables' : List (List ℕ)} {caches caches' : List (List Translation)} (number : ℕ) (small : number < 2 ^ 20) (holds : Holds held honest pages tables caches) (holds' : Holds held honest pages' tables' caches') (page page' : PageValue S) (found : page_at pages number ≡ Some page) (changes : ChangesPage pages pages' number page') (origin : page'.origin ≡ page.origin) (there : IsThere page.place) (there' : IsThere page'.place) where
    found_now : page_at pages' number ≡ Some page'
    found_now = changes.pages number ∙ choice_here number (Some page') (page_at pages number)

    fixed_same : may Store page.origin.rights ≡ false → flat_page held page' ≡ flat_page held page
    fixed_same fixed =
        let before = shown_untouched (entry_at tables number).dirty page.origin.bytes page.place there (holds.constant number page small found fixed) in
        let after = shown_untouched (entry_at tables' number).dirty page'.origin.bytes page'.place there' (holds'.constant number page' small found_now (ap (λ (o : Page). may Store o.rights) origin ∙ fixed)) in
        ap (λ b. record { rights = page'.origin.rights; bytes = b }) after
        ∙ ap (λ (o : Page). record { rights = o.rights; bytes = o.bytes }) origin
        ∙ ap (λ b. record { rights = page.origin.rights; bytes = b }) (sym before)

    -- one page changes, and was not given up
    pub unwritten_moved : SameUnwritten (flat_pages held pages) (flat_pages held pages')
    unwritten_moved q shown_page found_page fixed =
        elim (q == number) as (λ b. (q == number) ≡ b → get (flat_pages held pages') q ≡ Some shown_page) [
          | true ↦ λ at.
              let here : q ≡ number = eqb-true q number at in
              let told : Some (flat_page held page) ≡ Some shown_page =
              sym (get-shown pages number ∙ ap (option_map (flat_page held)) found) ∙ ap (get (flat_pages held pages)) (sym here) ∙ found_page in
              let is : flat_page held page ≡ shown_page = same_Some _ _ told in
              ap (get (flat_pages held pages')) here ∙ get-shown pages' number ∙ ap (option_map (flat_page held)) found_now
              ∙ ap Some (fixed_same (ap (λ (p : Page). may Store p.rights) is ∙ fixed) ∙ is)
          | false ↦ λ other.
              get-shown pages' q ∙ ap (option_map (flat_page held)) (changes.pages q ∙ choice_other q number (Some page') (page_at pages q) other) ∙ sym (get-shown pages q) ∙ found_page
        ] refl
