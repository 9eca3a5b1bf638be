-- What is found at a page's place for an access.
use Rattle.std.specs.Prelude.{◌≡◌, ℕ, true, false, cond, Option, Some, None, option_map, Ok, Err, List, refl}
use Rattle.std.proofs.Common.{ap, sym, ◌∙◌}
use Rattle.page_memory.specs.Pages.{Page}
use Rattle.page_memory.specs.declared.rights.Rights.{Rights}
use Rattle.page_memory.specs.declared.words.Access.{Access}
use Rattle.page_memory.specs.declared.fault.MemoryFault.TheVariants.{PageFault}
use Rattle.page_memory.specs.Rights.{may}
use Rattle.page_memory.specs.Entries.{place_of, value_at}
use Rattle.page_store.specs.PageValue.{PageValue, Place, Fresh, Resident, Leaving, Saving, Away, Purged}
use Rattle.paged_memory.specs.access.Access.{Locates, LacksPage, page_with_right, resident_frame, is_resident}
use Rattle.paged_memory.specs.Paged.{seen_of, page_at}
use Rattle.paged_memory.proofs.move_laws.PagedLaws.{page_at-place, page_at-nowhere}

module _ {S : Type 0} (pages : List (ℕ × PageValue S)) (access : Access) (number : ℕ) where
  pub refused_unmapped : place_of number pages ≡ None → page_with_right access (page_at pages number) ≡ Err PageFault
  refused_unmapped none = ap (page_with_right access) (page_at-nowhere pages number none)

  module _ (place : ℕ) (page : PageValue S) (at : place_of number pages ≡ Some place) (value : value_at place pages ≡ Some page) where
    found : page_at pages number ≡ Some page
    found = page_at-place pages number place page at value

    module _ (rights : Rights) (rights_is : rights ≡ page.origin.rights) where
      pub refused_forbidden : false ≡ may access rights → page_with_right access (page_at pages number) ≡ Err PageFault
      refused_forbidden not_allowed = ap (page_with_right access) found ∙ ap (λ b. cond b (Ok page) (Err PageFault)) (ap (may access) (sym rights_is) ∙ sym not_allowed)

      pub allowed_absent : true ≡ may access rights → page_with_right access (page_at pages number) ≡ Ok page
      allowed_absent allowed = ap (page_with_right access) found ∙ ap (λ b. cond b (Ok page) (Err PageFault)) (ap (may access) (sym rights_is) ∙ sym allowed)

    pub lacks_absent : (frame : Option ℕ) → frame ≡ resident_frame page.place → frame ≡ None → LacksPage pages number
    lacks_absent frame frame_is none = ap (λ o. is_resident (option_map seen_of o)) found ∙ by_place page.origin page.place (sym frame_is ∙ none)
      where
        by_place : (origin : Page) (place : Place S) → resident_frame place ≡ None → is_resident (Some (seen_of (record { origin = origin; place = place }))) ≡ false
        by_place origin Fresh none = refl
        by_place origin (Resident frame slot) none = cc
        by_place origin (Leaving frame slot mark) none = refl
        by_place origin (Saving frame mark) none = refl
        by_place origin (Away slot) none = refl
        by_place origin Purged none = refl

    pub located : (rights : Rights) → rights ≡ page.origin.rights → true ≡ may access rights → (framed : Option ℕ) (frame : ℕ) → framed ≡ resident_frame page.place → framed ≡ Some frame
        → Locates pages access number place frame rights
    located rights rights_is allowed framed frame framed_is some = by_place page.origin page.place found (sym rights_is) (ap (may access) (sym rights_is) ∙ sym allowed) (sym framed_is ∙ some)
      where
        by_place : (origin : Page) (stands : Place S) → page_at pages number ≡ Some (record { origin = origin; place = stands }) → origin.rights ≡ rights → may access origin.rights ≡ true → resident_frame stands ≡ Some frame → Locates pages access number place frame rights
        by_place origin Fresh found rights_is allowed is = cc
        by_place origin (Resident f slot) found rights_is allowed is =
            let same : f.number ≡ frame = cc in
            record { resident = record { origin = origin; frame = f; slot = slot; found = found }; at = at; frame_is = same; rights_is = rights_is; allowed = allowed }
        by_place origin (Leaving f slot mark) found rights_is allowed is = cc
        by_place origin (Saving f mark) found rights_is allowed is = cc
        by_place origin (Away slot) found rights_is allowed is = cc
        by_place origin Purged found rights_is allowed is = cc
