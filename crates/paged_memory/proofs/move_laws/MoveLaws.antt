-- What one page's move from one place to another does to a memory: to the counts, to where the page is, and to the other pages.
use Rattle.std.proofs.Common.{◌≡◌, ℕ, ◌+◌, ◌^◌, ◌<◌, Bool, true, false, ◌&&◌, cond, Some, option_map, option_and_then, inl, inr, refl, sym, ap, ◌∙◌, arith}
use Rattle.std.proofs.lemmas.Bool.Decides.{eqb_tells}
use Rattle.page_store.specs.Keeping.{kept}
use Rattle.page_store.specs.PageValue.{PageValue, Place, frame_of, slot_of, page_state_of}
use Rattle.paged_memory.proofs.access_laws.AlikeLaws.{SavingsStay, same_stay, same_rights}
use Rattle.paged_memory.specs.Calls.{ChangesBy}
use Rattle.paged_memory.specs.Counting.{is_resident_place, is_saving_place, frame_passes, is_kept}
use Rattle.paged_memory.proofs.CountingLaws.{pages_changed}
use Rattle.paged_memory.specs.moves.Moving.{SamePage, slot_in}
use Rattle.paged_memory.specs.Paged.{PagedValue, page_at}
use Rattle.paged_memory.specs.moves.Stages.{is_saving_stage}
use Rattle.paged_memory.specs.Whole.{stage_in, rights_in, frame_in, residents_among, savings_among, frames_among, slots_within}

module _ {S : Type 0} where
  -- every other page is as it was, each has its rights, and the process its number
  pub record KeepsOthers (vpn : ℕ) (old new : PagedValue S) : Type 0 where
    pub process : new.process ≡ old.process
    pub rights : (number : ℕ) → rights_in new number ≡ rights_in old number
    pub others : (number : ℕ) → (number ≡ vpn → ⊥) → SamePage old new number

  module _ (by : PageValue S → PageValue S → Type 0) (old new : PagedValue S) (vpn : ℕ) (told : ChangesBy by old.pages new.pages vpn) where
    pub moved_others : (number : ℕ) → (number ≡ vpn → ⊥) → SamePage old new number
    moved_others number apart =
        elim (eqb_tells number vpn) [
          | inl here ↦ absurd (apart here.1)
          | inr other ↦ told.changes.pages number ∙ ap (λ b. cond b (Some told.page') (page_at old.pages number)) other.0
        ]

    pub moved_now : page_at new.pages vpn ≡ Some told.page'
    moved_now =
        elim (eqb_tells vpn vpn) [
          | inl here ↦ told.changes.pages vpn ∙ ap (λ b. cond b (Some told.page') (page_at old.pages vpn)) here.0
          | inr other ↦ absurd (other.1 refl)
        ]

    moved_rights : told.page'.origin ≡ told.page.origin → (number : ℕ) → rights_in new number ≡ rights_in old number
    moved_rights origin number =
        elim (eqb_tells number vpn) [
          | inl here ↦
              ap (rights_in new) here.1
              ∙ ap (option_map (λ (page : PageValue S). page.origin.rights)) moved_now
              ∙ ap (λ o. Some o.rights) origin
              ∙ sym (ap (option_map (λ (page : PageValue S). page.origin.rights)) told.found)
              ∙ sym (ap (rights_in old) here.1)
          | inr other ↦ same_rights old new number (moved_others number other.1)
        ]

    pub moved_keeps : new.process ≡ old.process → told.page'.origin ≡ told.page.origin → KeepsOthers vpn old new
    moved_keeps process origin = record { process = process; rights = moved_rights origin; others = moved_others }

    module _ (from to : Place S) (was : told.page.place ≡ from) (is : told.page'.place ≡ to) where
      pub stage_before : stage_in old vpn ≡ Some (page_state_of from)
      stage_before = ap (option_map (λ (page : PageValue S). page_state_of page.place)) told.found ∙ ap (λ p. Some (page_state_of p)) was

      pub stage_after : stage_in new vpn ≡ Some (page_state_of to)
      stage_after = ap (option_map (λ (page : PageValue S). page_state_of page.place)) moved_now ∙ ap (λ p. Some (page_state_of p)) is

      pub frame_before : frame_in old vpn ≡ frame_of from
      frame_before = ap (option_and_then (λ (page : PageValue S). frame_of page.place)) told.found ∙ ap frame_of was

      pub frame_after : frame_in new vpn ≡ frame_of to
      frame_after = ap (option_and_then (λ (page : PageValue S). frame_of page.place)) moved_now ∙ ap frame_of is

      pub slot_before : slot_in old vpn ≡ kept (slot_of from)
      slot_before = ap (option_and_then (λ (page : PageValue S). kept (slot_of page.place))) told.found ∙ ap (λ p. kept (slot_of p)) was

      pub slot_after : slot_in new vpn ≡ kept (slot_of to)
      slot_after = ap (option_and_then (λ (page : PageValue S). kept (slot_of page.place))) moved_now ∙ ap (λ p. kept (slot_of p)) is

      -- pages that are being saved stay so, where the page was none of them
      pub moved_stay : is_saving_place from ≡ false → SavingsStay old new
      moved_stay apart =
          same_stay old new
          (λ number small saving.
          moved_others number
          (λ here.
          let yes : is_saving_stage (stage_in old vpn) ≡ true = ap (λ n. is_saving_stage (stage_in old n)) (sym here) ∙ saving in
          let no : is_saving_stage (stage_in old vpn) ≡ false = ap is_saving_stage stage_before ∙ apart in
          cc))

      -- where it counts by its place, it counts so before and after
      counted : (test : ℕ → PageValue S → Bool) (by_place : Place S → Bool) → test vpn told.page ≡ by_place told.page.place → test vpn told.page' ≡ by_place told.page'.place → (cond (test vpn told.page) 1 0 ≡ cond {A = ℕ} (by_place from) 1 0) × (cond (test vpn told.page') 1 0 ≡ cond {A = ℕ} (by_place to) 1 0)
      counted test by_place first last = (ap (λ b. cond {A = ℕ} b 1 0) (first ∙ ap by_place was), ap (λ b. cond {A = ℕ} b 1 0) (last ∙ ap by_place is))

      module _ (small : vpn < 2 ^ 20) where
        pub moved_residents : (test : ℕ → Bool) → residents_among new test + cond (is_resident_place from && test vpn) 1 0 ≡ residents_among old test + cond (is_resident_place to && test vpn) 1 0
        moved_residents test =
            let here = counted (λ number page. is_resident_place page.place && test number) (λ place. is_resident_place place && test vpn) refl refl in
            let changed = pages_changed (λ number page. is_resident_place page.place && test number) old.pages new.pages vpn told.page told.page' told.found told.changes small in
            omega (arith, here.0, here.1, changed)

        pub moved_savings : (test : ℕ → Bool) → savings_among new test + cond (is_saving_place from && test vpn) 1 0 ≡ savings_among old test + cond (is_saving_place to && test vpn) 1 0
        moved_savings test =
            let here = counted (λ number page. is_saving_place page.place && test number) (λ place. is_saving_place place && test vpn) refl refl in
            let changed = pages_changed (λ number page. is_saving_place page.place && test number) old.pages new.pages vpn told.page told.page' told.found told.changes small in
            omega (arith, here.0, here.1, changed)

        pub moved_frames : (test : ℕ → Bool) → frames_among new test + cond (frame_passes test (frame_of from)) 1 0 ≡ frames_among old test + cond (frame_passes test (frame_of to)) 1 0
        moved_frames test =
            let here = counted (λ number page. frame_passes test (frame_of page.place)) (λ place. frame_passes test (frame_of place)) refl refl in
            let changed = pages_changed (λ number page. frame_passes test (frame_of page.place)) old.pages new.pages vpn told.page told.page' told.found told.changes small in
            omega (arith, here.0, here.1, changed)

        pub moved_slots : slots_within new + cond (is_kept (slot_of from)) 1 0 ≡ slots_within old + cond (is_kept (slot_of to)) 1 0
        moved_slots =
            let here = counted (λ number page. is_kept (slot_of page.place)) (λ place. is_kept (slot_of place)) refl refl in
            let changed = pages_changed (λ number page. is_kept (slot_of page.place)) old.pages new.pages vpn told.page told.page' told.found told.changes small in
            omega (arith, here.0, here.1, changed)
