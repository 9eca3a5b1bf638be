-- What it does to a memory that a resident page's use is read, that it begins to leave its frame, and that it is mapped again.
use Rattle.std.proofs.Common.{◌≡◌, ℕ, ◌+◌, ◌^◌, ◌<◌, Bool, true, false, cond, Option, Some, None, option_map, is_some, inl, inr, refl, sym, ap, ◌∙◌, arith}
use Rattle.std.specs.Prelude.{if◌then◌else◌}
use Rattle.std.proofs.lemmas.Bool.Decides.{eqb_tells}
use Rattle.frame_pool.specs.FrameValue.{FrameValue}
use Rattle.page_store.specs.Moves.{IfResident}
use Rattle.page_store.specs.PageValue.{PageValue, Place, Fresh, Resident, Leaving, Saving, Away, Purged, page_state_of}
use Rattle.page_store.specs.declared.refusal.LeaveRefusal.{LeaveRefusal}
use Rattle.page_store.specs.Keeping.{Keeping, NoSlot, Saved, Unbacked, Cleaning, CopyOut, settled}
use Rattle.page_store.specs.declared.state.PageState.TheVariants as stage
use Rattle.sv32_table.specs.Entry.{Entry}
use Rattle.sv32_table.specs.EntryAt.{entry_at, dirty_of, unaccessed_entry}
use Rattle.sv32_table.proofs.EntryLaws.{dirty-page_entry}
use Rattle.paged_memory.proofs.access_laws.AlikeLaws.{SavingsStay, CountsAlike, same_pages}
use Rattle.paged_memory.specs.cleaning.Copies.{LeavesCopies, if_out}
use Rattle.paged_memory.proofs.cleaning_laws.CopiesMoveLaws.{other_bits, entry_changed, moved_copies}
use Rattle.paged_memory.proofs.cleaning_laws.CopiesToldLaws.{leaves_bits}
use Rattle.paged_memory.specs.Counting.{is_kept}
use Rattle.paged_memory.specs.Calls.{Leaves, RefusesLeave, accessed_at}
use Rattle.paged_memory.specs.moves.Leaving.{Returns}
use Rattle.paged_memory.proofs.move_laws.MoveLaws.{KeepsOthers, moved_keeps, stage_before, stage_after, frame_before, frame_after, slot_before, slot_after, moved_stay, moved_residents, moved_savings, moved_frames, moved_slots}
use Rattle.paged_memory.specs.moves.Moving.{ForgetsUse, BeginsToLeave, DoesNotLeave, MapsAgain, SamePage, slot_in}
use Rattle.paged_memory.specs.Paged.{PagedValue, page_at, seen_of}
use Rattle.paged_memory.proofs.SeenLaws.{kept_settled}
use Rattle.paged_memory.specs.moves.Stages.{is_resident_stage}
use Rattle.paged_memory.specs.Whole.{stage_in, frame_in, accessed_in, residents_among, savings_among, frames_among, slots_within}

-- an entry whose A is cleared keeps its D
unaccessed_dirty : (e : Entry) → (unaccessed_entry e).dirty ≡ e.dirty
unfolding unaccessed_entry
unaccessed_dirty e = elim e.valid as (λ b. (if b then record e { accessed = false } else e).dirty ≡ e.dirty) [
  | true ↦ refl
  | false ↦ refl
]

module _ {S : Type 0} where
  -- ---- a page's use is read

  pub forgets_alike : (vpn : ℕ) (old new : PagedValue S) → ForgetsUse vpn old new → CountsAlike old new
  forgets_alike vpn old new forgets = same_pages old new forgets.process forgets.pages (leaves_bits old new forgets.pages bits)
    where
      bits : (q : ℕ) → q < 2 ^ 20 → (entry_at new.tables q).dirty ≡ (entry_at old.tables q).dirty
      bits q small =
          elim (eqb_tells q vpn) [
            | inl here ↦
                ap (λ (e : Entry). e.dirty) (forgets.entry q small ∙ ap (λ b. if b then unaccessed_entry (entry_at old.tables vpn) else entry_at old.tables q) here.0)
                ∙ unaccessed_dirty (entry_at old.tables vpn) ∙ sym (ap (λ n. (entry_at old.tables n).dirty) here.1)
            | inr other ↦ ap (λ (e : Entry). e.dirty) (forgets.entry q small ∙ ap (λ b. if b then unaccessed_entry (entry_at old.tables vpn) else entry_at old.tables q) other.0)
          ]

  -- each page is as it was
  pub forgets_pages : (vpn : ℕ) (old new : PagedValue S) → ForgetsUse vpn old new → (number : ℕ) → SamePage old new number
  forgets_pages vpn old new forgets number = ap (λ pages. page_at pages number) forgets.pages

  -- a page has an accessed bit exactly where it is resident
  pub accessed_stage : (memory : PagedValue S) (vpn : ℕ) → is_some (accessed_in memory vpn) ≡ is_resident_stage (stage_in memory vpn)
  accessed_stage memory vpn = by_page (page_at memory.pages vpn)
    where
      by_place : (page : PageValue S) (place : Place S) → is_some (accessed_at (Some (seen_of (record page { place = place }))) (entry_at memory.tables vpn)) ≡ is_resident_stage (Some (page_state_of place))
      by_place page Fresh = refl
      by_place page (Resident frame slot) = refl
      by_place page (Leaving frame slot mark) = refl
      by_place page (Saving frame mark) = refl
      by_place page (Away slot) = refl
      by_place page Purged = refl

      by_page : (o : Option (PageValue S)) → is_some (accessed_at (option_map seen_of o) (entry_at memory.tables vpn)) ≡ is_resident_stage (option_map (λ (page : PageValue S). page_state_of page.place) o)
      by_page None = refl
      by_page (Some page) = by_place page page.place

  -- ---- a page begins to leave

  -- a resident page does
  pub resident_leaves : (memory : PagedValue S) (vpn : ℕ) (refusal : LeaveRefusal) → is_resident_stage (stage_in memory vpn) ≡ true → DoesNotLeave vpn refusal memory → ⊥
  resident_leaves memory vpn refusal is refuses = by_page (page_at memory.pages vpn) is refuses
    where
      by_place : (page : PageValue S) (place : Place S) → is_resident_stage (Some (page_state_of place)) ≡ true → RefusesLeave (Some (record page { place = place })) refusal → ⊥
      by_place page Fresh is h = cc
      by_place page (Resident frame slot) is h = let g = h true in cc
      by_place page (Leaving frame slot mark) is h = cc
      by_place page (Saving frame mark) is h = cc
      by_place page (Away slot) is h = cc
      by_place page Purged is h = cc

      by_page : (o : Option (PageValue S)) → is_resident_stage (option_map (λ (page : PageValue S). page_state_of page.place) o) ≡ true → RefusesLeave o refusal → ⊥
      by_page None is h = cc
      by_page (Some page) is h = by_place page page.place is h

  -- it keeps its frame and its slot, and is resident no more
  pub record HasBegun (vpn : ℕ) (old new : PagedValue S) : Type 0 where
    pub keeps : KeepsOthers vpn old new
    pub was : stage_in old vpn ≡ Some stage.Resident
    pub is : stage_in new vpn ≡ Some stage.Leaving
    pub frame : frame_in new vpn ≡ frame_in old vpn
    pub slot : slot_in new vpn ≡ slot_in old vpn
    pub residents : (test : ℕ → Bool) → residents_among new test + cond (test vpn) 1 0 ≡ residents_among old test
    pub savings : (test : ℕ → Bool) → savings_among new test ≡ savings_among old test
    pub frames : (test : ℕ → Bool) → frames_among new test ≡ frames_among old test
    pub slots : slots_within new ≡ slots_within old
    pub stay : SavingsStay old new
    pub copies : LeavesCopies old new

  slotted_settled : (slot : Keeping S) → is_kept (settled slot) ≡ is_kept slot
  slotted_settled NoSlot = refl
  slotted_settled (Saved copy) = refl
  slotted_settled (Unbacked own) = refl
  slotted_settled (Cleaning own) = refl
  slotted_settled CopyOut = refl

  record Left (mark : Bool) (page page' : PageValue S) : Type 0 where
    pub frame : FrameValue
    pub slot : Keeping S
    pub was : page.place ≡ Resident frame slot
    pub is : page' ≡ record page { place = Leaving frame (settled slot) mark }

  left_page : (mark : Bool) (page page' : PageValue S) → Leaves mark page page' → Left mark page page'
  left_page mark page page' how = by_place page.place refl how
    where
      by_place : (place : Place S) → page.place ≡ place → IfResident place (λ frame slot. page' ≡ record page { place = Leaving frame (settled slot) mark }) → Left mark page page'
      by_place Fresh at how = absurd how
      by_place (Resident frame slot) at how = record { frame = frame; slot = slot; was = at; is = how }
      by_place (Leaving frame slot m) at how = absurd how
      by_place (Saving frame mark) at how = absurd how
      by_place (Away slot) at how = absurd how
      by_place Purged at how = absurd how

  module _ (vpn : ℕ) (old new : PagedValue S) (small : vpn < 2 ^ 20) (leaves : BeginsToLeave vpn old new) where
    abbrev mark : Bool
    mark = dirty_of (entry_at old.tables vpn)

    left : Left mark leaves.page.page leaves.page.page'
    left = left_page mark leaves.page.page leaves.page.page' leaves.page.how

    left_to : leaves.page.page'.place ≡ Leaving left.frame (settled left.slot) mark
    left_to = ap (λ (p : PageValue S). p.place) left.is

    pub begun : HasBegun vpn old new
    begun = record {
      keeps = moved_keeps (Leaves mark) old new vpn leaves.page leaves.process (ap (λ (p : PageValue S). p.origin) left.is);
      was = stage_before (Leaves mark) old new vpn leaves.page _ _ left.was left_to;
      is = stage_after (Leaves mark) old new vpn leaves.page _ _ left.was left_to;
      frame = frame_after (Leaves mark) old new vpn leaves.page _ _ left.was left_to ∙ sym (frame_before (Leaves mark) old new vpn leaves.page _ _ left.was left_to);
      slot = slot_after (Leaves mark) old new vpn leaves.page _ _ left.was left_to ∙ kept_settled left.slot ∙ sym (slot_before (Leaves mark) old new vpn leaves.page _ _ left.was left_to);
      residents = λ test. let moved : residents_among new test + cond (test vpn) 1 0 ≡ residents_among old test + 0 = moved_residents (Leaves mark) old new vpn leaves.page _ _ left.was left_to small test in omega (arith, moved);
      savings = λ test. let moved : savings_among new test + 0 ≡ savings_among old test + 0 = moved_savings (Leaves mark) old new vpn leaves.page _ _ left.was left_to small test in omega (arith, moved);
      frames = λ test. let moved : frames_among new test + cond (test left.frame.number) 1 0 ≡ frames_among old test + cond (test left.frame.number) 1 0 = moved_frames (Leaves mark) old new vpn leaves.page _ _ left.was left_to small test in omega (arith, moved);
      slots =
          let as_many : cond {A = ℕ} (is_kept (settled left.slot)) 1 0 ≡ cond (is_kept left.slot) 1 0 = ap (λ b. cond {A = ℕ} b 1 0) (slotted_settled left.slot) in
          let moved : slots_within new + cond (is_kept left.slot) 1 0 ≡ slots_within old + cond (is_kept (settled left.slot)) 1 0 = moved_slots (Leaves mark) old new vpn leaves.page _ _ left.was left_to small in
          omega (arith, as_many, moved);
      stay = moved_stay (Leaves mark) old new vpn leaves.page _ _ left.was left_to refl;
      copies = leaves.copies;
    }

  -- ---- a page that is leaving is mapped again

  -- it keeps its frame and its slot, and is resident
  pub record HasReturned (vpn : ℕ) (old new : PagedValue S) : Type 0 where
    pub keeps : KeepsOthers vpn old new
    pub was : stage_in old vpn ≡ Some stage.Leaving
    pub is : stage_in new vpn ≡ Some stage.Resident
    pub frame : frame_in new vpn ≡ frame_in old vpn
    pub slot : slot_in new vpn ≡ slot_in old vpn
    pub residents : (test : ℕ → Bool) → residents_among new test ≡ residents_among old test + cond (test vpn) 1 0
    pub savings : (test : ℕ → Bool) → savings_among new test ≡ savings_among old test
    pub frames : (test : ℕ → Bool) → frames_among new test ≡ frames_among old test
    pub slots : slots_within new ≡ slots_within old
    pub stay : SavingsStay old new
    pub copies : LeavesCopies old new

  module _ (vpn : ℕ) (old new : PagedValue S) (maps : MapsAgain vpn old new) where
    abbrev how : Returns maps.page.mark maps.page.page.page maps.page.page.page'
    how = maps.page.page.how

    back_to : maps.page.page.page'.place ≡ Resident how.frame how.slot
    back_to = ap (λ (p : PageValue S). p.place) how.is

    mapped_bit : (entry_at new.tables vpn).dirty ≡ maps.page.mark
    mapped_bit =
        ap (λ (e : Entry). e.dirty) (entry_changed vpn _ old.tables new.tables maps.small maps.page.entry)
        ∙ dirty-page_entry how.frame.number maps.page.page.page.origin.rights false maps.page.mark

    pub returned : HasReturned vpn old new
    returned = record {
      keeps = moved_keeps (Returns maps.page.mark) old new vpn maps.page.page maps.process (ap (λ (p : PageValue S). p.origin) how.is);
      was = stage_before (Returns maps.page.mark) old new vpn maps.page.page _ _ how.was back_to;
      is = stage_after (Returns maps.page.mark) old new vpn maps.page.page _ _ how.was back_to;
      frame = frame_after (Returns maps.page.mark) old new vpn maps.page.page _ _ how.was back_to ∙ sym (frame_before (Returns maps.page.mark) old new vpn maps.page.page _ _ how.was back_to);
      slot = slot_after (Returns maps.page.mark) old new vpn maps.page.page _ _ how.was back_to ∙ sym (slot_before (Returns maps.page.mark) old new vpn maps.page.page _ _ how.was back_to);
      residents = λ test. let moved : residents_among new test + 0 ≡ residents_among old test + cond (test vpn) 1 0 = moved_residents (Returns maps.page.mark) old new vpn maps.page.page _ _ how.was back_to maps.small test in omega (arith, moved);
      savings = λ test. let moved : savings_among new test + 0 ≡ savings_among old test + 0 = moved_savings (Returns maps.page.mark) old new vpn maps.page.page _ _ how.was back_to maps.small test in omega (arith, moved);
      frames = λ test. let moved : frames_among new test + cond (test how.frame.number) 1 0 ≡ frames_among old test + cond (test how.frame.number) 1 0 = moved_frames (Returns maps.page.mark) old new vpn maps.page.page _ _ how.was back_to maps.small test in omega (arith, moved);
      slots = let moved = moved_slots (Returns maps.page.mark) old new vpn maps.page.page _ _ how.was back_to maps.small in omega (arith, moved);
      stay = moved_stay (Returns maps.page.mark) old new vpn maps.page.page _ _ how.was back_to refl;
      copies = moved_copies (Returns maps.page.mark) old new vpn maps.page.page (other_bits vpn _ old.tables new.tables maps.page.entry) _ _ how.was back_to (ap (λ bit. if_out how.slot (bit, how.frame.bytes)) mapped_bit);
    }
