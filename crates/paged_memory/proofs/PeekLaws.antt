-- What a look at bytes of a page leaves, and what its refusal tells.
use Rattle.std.proofs.Common.{◌≡◌, ℕ, cond, List, Option, Some, None, option_map, is_some, inl, inr, refl, sym, ap, ◌∙◌}
use Rattle.std.proofs.lemmas.Bool.Decides.{eqb_tells}
use Rattle.page_memory.specs.Words.{page_number}
use Rattle.page_store.specs.PageValue.{PageValue, Place, page_state_of}
use Rattle.page_store.specs.PageValue as place
use Rattle.page_store.specs.declared.state.PageState.{PageState}
use Rattle.page_store.specs.declared.state.PageState.TheVariants as stage
use Rattle.paged_memory.specs.Calls.{ChangesBy}
use Rattle.paged_memory.specs.moves.Filling.{StaysAbsent}
use Rattle.paged_memory.specs.moves.Moving.{DoesNotShow, LeavesLookedAt}
use Rattle.paged_memory.specs.Paged.{PagedValue, page_at}
use Rattle.paged_memory.specs.Peeking.{LeavesPage, LeavesPlace}
use Rattle.paged_memory.proofs.move_laws.StillLaws.{still_where}
use Rattle.paged_memory.specs.Whole.{rights_in, stage_in}
use Rattle.paged_memory.specs.declared.peeking.PeekFault.TheVariants as fault

module _ {S : Type 0} where
  abbrev stage_of : Option (PageValue S) → Option PageState
  stage_of page = option_map (λ (p : PageValue S). page_state_of p.place) page

  -- a page that has rights is somewhere
  pub rights_staged : (memory : PagedValue S) (number : ℕ) → is_some (rights_in memory number) ≡ is_some (stage_in memory number)
  rights_staged memory number = by_page (page_at memory.pages number)
    where
      by_page : (o : Option (PageValue S)) → is_some (option_map (λ (p : PageValue S). p.origin.rights) o) ≡ is_some (stage_of o)
      by_page None = refl
      by_page (Some page) = refl

  module _ (held : S → List ℕ) (honest : Type 0) where
    one_read : (old new : PagedValue S) (vpn : ℕ) → ChangesBy (StaysAbsent held honest) old.pages new.pages vpn → (number : ℕ) → stage_in new number ≡ stage_in old number
    one_read old new vpn told number =
        elim (eqb_tells number vpn) [
          | inl same ↦
              ap stage_of (told.changes.pages number ∙ ap (λ b. cond b (Some told.page') (page_at old.pages number)) same.0)
              ∙ ap Some (still_where told.page.place told.page'.place told.how.place)
              ∙ sym (ap stage_of (ap (page_at old.pages) same.1 ∙ told.found))
          | inr other ↦ ap stage_of (told.changes.pages number ∙ ap (λ b. cond b (Some told.page') (page_at old.pages number)) other.0)
        ]

    none_read : (old new : PagedValue S) → new.pages ≡ old.pages → (number : ℕ) → stage_in new number ≡ stage_in old number
    none_read old new same number = ap (λ pages. stage_of (page_at pages number)) same

    looked_at : (old new : PagedValue S) (vpn : ℕ) (was : Option (PageValue S)) → LeavesPage held honest old.pages new.pages vpn was → (number : ℕ) → stage_in new number ≡ stage_in old number
    looked_at old new vpn None left = none_read old new left
    looked_at old new vpn (Some page) left = by_place page.place left
      where
        by_place : (p : Place S) → LeavesPlace held honest old.pages new.pages vpn p → (number : ℕ) → stage_in new number ≡ stage_in old number
        by_place place.Fresh left = none_read old new left
        by_place (place.Resident frame slot) left = none_read old new left
        by_place (place.Leaving frame slot mark) left = none_read old new left
        by_place (place.Saving frame mark) left = none_read old new left
        by_place (place.Away slot) left = one_read old new vpn left
        by_place place.Purged left = none_read old new left

    -- each page is where it was
    pub looked_stage : (address : ℕ) (old new : PagedValue S) → LeavesLookedAt held honest address old new → (number : ℕ) → stage_in new number ≡ stage_in old number
    looked_stage address old new left = looked_at old new (page_number address) (page_at old.pages (page_number address)) left

    -- no page is mapped there; it was given up; and a device that counts no failures is no reason
    pub not_mapped : (failures : S → ℕ) (address : ℕ) (old new : PagedValue S) → DoesNotShow held honest failures address old new fault.NotMapped → stage_in old (page_number address) ≡ None
    not_mapped failures address old new why = ap stage_of why

    pub was_given_up : (failures : S → ℕ) (address : ℕ) (old new : PagedValue S) → DoesNotShow held honest failures address old new fault.Purged → stage_in old (page_number address) ≡ Some stage.Purged
    was_given_up failures address old new why = by_page (page_at old.pages (page_number address)) why
      where
        by_page : (o : Option (PageValue S)) → option_map (λ (p : PageValue S). p.place) o ≡ Some place.Purged → stage_of o ≡ Some stage.Purged
        by_page None is = cc
        by_page (Some page) is = let at : page.place ≡ place.Purged = cc in ap (λ p. Some (page_state_of p)) at
