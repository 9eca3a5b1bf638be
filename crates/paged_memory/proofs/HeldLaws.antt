-- Pages that stand in frames, counted one mapped page after another.
use Rattle.std.proofs.Common.{◌≡◌, ℕ, zero, suc, ◌+◌, ◌<◌, ◌≤◌, Bool, true, ◌&&◌, cond, inl, inr, List, Option, Some, None, option_map, is_some, refl, ap, arith, add-one}
use Rattle.std.proofs.lemmas.Bool.Decides.{leb_tells}
use Rattle.page_memory.specs.Entries.{place_of}
use Rattle.page_store.specs.Keeping.{Keeping, NoSlot, Saved, Unbacked, Cleaning, CopyOut, kept}
use Rattle.page_store.specs.PageValue.{PageValue, Place, Fresh, Resident, Leaving, Saving, Away, Purged, frame_of, page_state_of, slot_of}
use Rattle.paged_memory.specs.Counting.{page_passes, pages_below, is_resident_place, frame_passes, is_kept}
use Rattle.paged_memory.specs.Paged.{page_at}
use Rattle.paged_memory.specs.moves.Stages.{is_resident_stage, has_frame_stage}
use Rattle.paged_memory.proofs.move_laws.PagedLaws.{page_at-nowhere}

module _ {S : Type 0} where
  -- what a page's place tells of it
  pub resident_by : (o : Option (PageValue S)) → cond {A = ℕ} (is_resident_stage (option_map (λ (page : PageValue S). page_state_of page.place) o)) 1 0 ≡ cond (page_passes (λ (page : PageValue S). is_resident_place page.place && true) o) 1 0
  resident_by None = refl
  resident_by (Some page) = by_place page.place
    where
      by_place : (place : Place S) → cond {A = ℕ} (is_resident_stage (Some (page_state_of place))) 1 0 ≡ cond (is_resident_place place && true) 1 0
      by_place Fresh = refl
      by_place (Resident frame slot) = refl
      by_place (Leaving frame slot mark) = refl
      by_place (Saving frame mark) = refl
      by_place (Away slot) = refl
      by_place Purged = refl

  pub framed_by : (o : Option (PageValue S)) → cond {A = ℕ} (has_frame_stage (option_map (λ (page : PageValue S). page_state_of page.place) o)) 1 0 ≡ cond (page_passes (λ (page : PageValue S). frame_passes (λ _. true) (frame_of page.place)) o) 1 0
  framed_by None = refl
  framed_by (Some page) = by_place page.place
    where
      by_place : (place : Place S) → cond {A = ℕ} (has_frame_stage (Some (page_state_of place))) 1 0 ≡ cond (frame_passes (λ _. true) (frame_of place)) 1 0
      by_place Fresh = refl
      by_place (Resident frame slot) = refl
      by_place (Leaving frame slot mark) = refl
      by_place (Saving frame mark) = refl
      by_place (Away slot) = refl
      by_place Purged = refl

  pub slotted_by : (page : PageValue S) → is_some (kept (slot_of page.place)) ≡ is_kept (slot_of page.place)
  slotted_by page = by_slot (slot_of page.place)
    where
      by_slot : (slot : Keeping S) → is_some (kept slot) ≡ is_kept slot
      by_slot NoSlot = refl
      by_slot (Saved copy) = refl
      by_slot (Unbacked slot) = refl
      by_slot (Cleaning slot) = refl
      by_slot CopyOut = refl

  abbrev pub slots_to : List (ℕ × PageValue S) → ℕ → ℕ
  slots_to pages n = pages_below (λ number (page : PageValue S). is_kept (slot_of page.place)) pages n

  abbrev pub residents_to : List (ℕ × PageValue S) → ℕ → ℕ
  residents_to pages n = pages_below (λ number (page : PageValue S). is_resident_place page.place && true) pages n

  abbrev pub frames_to : List (ℕ × PageValue S) → ℕ → ℕ
  frames_to pages n = pages_below (λ number (page : PageValue S). frame_passes (λ _. true) (frame_of page.place)) pages n

  module _ (test : ℕ → PageValue S → Bool) (pages : List (ℕ × PageValue S)) where
    -- no page is counted where none is mapped
    pub none_counted : (from end : ℕ) → from ≤ end → ((q : ℕ) → from ≤ q → q < end → place_of q pages ≡ None) → pages_below test pages end ≡ pages_below test pages from
    unfolding pages_below
    none_counted from zero low none = let same : 0 ≡ from = omega (arith, low) in ap (pages_below test pages) same
    none_counted from (suc end) low none =
        elim (leb_tells (suc end) from) [
          | inl past ↦ let whole = past.1 in let same : suc end ≡ from = omega (arith, whole, low) in ap (pages_below test pages) same
          | inr below ↦
              let less = below.1 in
              let nothing : cond {A = ℕ} (page_passes (test end) (page_at pages end)) 1 0 ≡ 0 = ap (λ o. cond {A = ℕ} (page_passes (test end) o) 1 0) (page_at-nowhere pages end (none end (omega arith) (omega arith))) in
              omega (arith, nothing, none_counted from end (omega arith) (λ q behind before. none q behind (omega (arith, before))))
        ]

    -- one more page, past those that are not mapped
    pub one_counted : (from number count more : ℕ) → from ≤ number → ((q : ℕ) → from ≤ q → q < number → place_of q pages ≡ None)
        → count ≡ pages_below test pages from → more ≡ cond (page_passes (test number) (page_at pages number)) 1 0 → count + more ≡ pages_below test pages (number + 1)
    unfolding pages_below
    one_counted from number count more low none is one = rw add-one (omega (arith, is, one, none_counted from number low none))
