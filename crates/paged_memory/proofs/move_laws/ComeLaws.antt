-- What it does to a memory that an absent page comes into a frame, that it does not, and that a page is looked at.
use Rattle.std.proofs.Common.{◌≡◌, ℕ, ◌+◌, ◌^◌, ◌<◌, Bool, true, false, ◌&&◌, cond, List, Option, Some, None, option_map, refl, ap, ◌∙◌, arith, subst}
use Rattle.std.specs.Prelude.{IfSome}
use Rattle.frame_pool.specs.FrameValue.{FrameValue}
use Rattle.page_memory.specs.Words.{page_number}
use Rattle.page_store.specs.Moves.{IfAbsent, IfAway, IfResident, IfSaved}
use Rattle.page_store.specs.PageValue.{PageValue, Place, Fresh, Resident, Leaving, Saving, Away, Purged, frame_of, slot_of, page_state_of}
use Rattle.page_store.specs.Keeping.{Keeping, NoSlot, Saved, Unbacked, Cleaning, CopyOut}
use Rattle.page_store.specs.declared.state.PageState.{PageState}
use Rattle.page_store.specs.declared.state.PageState.TheVariants as stage
use Rattle.sv32_table.specs.Entry.{page_entry}
use Rattle.sv32_table.specs.EntryAt.{entry_at, ChangesEntry}
use Rattle.paged_memory.proofs.access_laws.AlikeLaws.{SavingsStay, CountsAlike, same_tables}
use Rattle.paged_memory.specs.cleaning.Copies.{LeavesCopies, if_out, told_of_place}
use Rattle.paged_memory.proofs.cleaning_laws.CopiesMoveLaws.{same_bits, other_bits, moved_copies}
use Rattle.paged_memory.specs.Calls.{ChangesBy}
use Rattle.paged_memory.specs.Counting.{is_resident_place, is_saving_place, frame_passes, is_kept}
use Rattle.paged_memory.specs.moves.Filling.{BroughtIn, StaysAbsent}
use Rattle.paged_memory.proofs.move_laws.MoveLaws.{KeepsOthers, moved_keeps, stage_before, stage_after, frame_before, frame_after, moved_stay, moved_residents, moved_savings, moved_frames, moved_slots}
use Rattle.paged_memory.specs.moves.Moving.{ComesIn, RefusesIn, LeavesLookedAt, OnlyPages}
use Rattle.paged_memory.specs.Paged.{PagedValue, page_at}
use Rattle.paged_memory.specs.Peeking.{LeavesPlace, LeavesPage}
use Rattle.paged_memory.specs.moves.Stages.{is_absent_stage}
use Rattle.paged_memory.specs.Whole.{stage_in, frame_in, residents_among, savings_among, frames_among, slots_within}
use Rattle.paged_memory.specs.declared.filling.PageInFault.{PageInFault}
use Rattle.paged_memory.specs.declared.filling.PageInFault.TheVariants.{NotAbsent, Device, Damaged, NoMemory}

number_passes : (test : ℕ → Bool) (o : Option FrameValue) (number : ℕ) → option_map (λ (f : FrameValue). f.number) o ≡ Some number → frame_passes test o ≡ test number
number_passes test None number h = cc
number_passes test (Some f) number h = let e : f.number ≡ number = cc in ap test e

module _ {S : Type 0} where
  -- ---- a page comes in

  -- it was absent, and is resident in this frame
  pub record HasCome (frame : FrameValue) (vpn : ℕ) (old new : PagedValue S) : Type 0 where
    pub keeps : KeepsOthers vpn old new
    pub was : is_absent_stage (stage_in old vpn) ≡ true
    pub is : stage_in new vpn ≡ Some stage.Resident
    pub unframed : frame_in old vpn ≡ None
    pub framed : option_map (λ (f : FrameValue). f.number) (frame_in new vpn) ≡ Some frame.number
    pub residents : (test : ℕ → Bool) → residents_among new test ≡ residents_among old test + cond (test vpn) 1 0
    pub savings : (test : ℕ → Bool) → savings_among new test ≡ savings_among old test
    pub frames : (test : ℕ → Bool) → frames_among new test ≡ frames_among old test + cond (test frame.number) 1 0
    pub slots : slots_within new ≡ slots_within old
    pub stay : SavingsStay old new
    pub copies : LeavesCopies old new

  -- an absent page that is in a frame now, with the slot that it had
  record Arrived (frame : FrameValue) (old new : Place S) : Type 0 where
    pub was : is_resident_place old ≡ false
    pub is : is_resident_place new ≡ true
    pub was_saved : is_saving_place old ≡ false
    pub is_saved : is_saving_place new ≡ false
    pub absent : is_absent_stage (Some (page_state_of old)) ≡ true
    pub there : page_state_of new ≡ stage.Resident
    pub had : frame_of old ≡ None
    pub has : option_map (λ (f : FrameValue). f.number) (frame_of new) ≡ Some frame.number
    pub kept : is_kept (slot_of new) ≡ is_kept (slot_of old)
    pub untold : (before after : Bool) → told_of_place after new ≡ told_of_place before old

  arrived : (frame : FrameValue) (origin : List ℕ) (old new : Place S)
      → IfResident new (λ filled slot. (filled.number ≡ frame.number) × IfAbsent old ((filled.bytes ≡ origin) × (slot ≡ NoSlot)) (λ _. IfSaved slot (λ _. Unit {0})))
      → Arrived frame old new
  arrived frame origin old Fresh how = absurd how
  arrived frame origin Fresh (Resident filled slot) how = record {
    was = refl;
    is = refl;
    was_saved = refl;
    is_saved = refl;
    absent = refl;
    there = refl;
    had = refl;
    has = ap {B = Option ℕ} (λ n. Some n) how.0;
    kept = ap is_kept how.1.1;
    untold = λ before after. ap (λ k. if_out k (after, filled.bytes)) how.1.1;
  }
  arrived frame origin (Resident f s) (Resident filled slot) how = absurd how.1
  arrived frame origin (Leaving f s m) (Resident filled slot) how = absurd how.1
  arrived frame origin (Saving f mark) (Resident filled slot) how = absurd how.1
  arrived frame origin (Away s) (Resident filled slot) how = record {
    was = refl;
    is = refl;
    was_saved = refl;
    is_saved = refl;
    absent = refl;
    there = refl;
    had = refl;
    has = ap {B = Option ℕ} (λ n. Some n) how.0;
    kept = still slot how.1;
    untold = λ before after. none slot (after, filled.bytes) how.1;
  }
    where
      none : (slot : Keeping S) (told : Bool × List ℕ) → IfSaved slot (λ _. Unit {0}) → if_out slot told ≡ None
      none NoSlot told h = absurd h
      none (Saved s) told h = refl
      none (Unbacked s) told h = absurd h
      none (Cleaning s) told h = absurd h
      none CopyOut told h = absurd h

      still : (slot : Keeping S) → IfSaved slot (λ _. Unit {0}) → is_kept slot ≡ true
      still NoSlot h = absurd h
      still (Saved s) h = refl
      still (Unbacked s) h = absurd h
      still (Cleaning s) h = absurd h
      still CopyOut h = absurd h
  arrived frame origin Purged (Resident filled slot) how = absurd how.1
  arrived frame origin old (Leaving f s m) how = absurd how
  arrived frame origin old (Saving f mark) how = absurd how
  arrived frame origin old (Away s) how = absurd how
  arrived frame origin old Purged how = absurd how

  module _ (held : S → List ℕ) (honest : Type 0) where
    module _ (frame : FrameValue) (vpn : ℕ) (old new : PagedValue S) (comes : ComesIn held honest frame vpn old new) where
      abbrev from : Place S
      from = comes.page.page.place

      abbrev to : Place S
      to = comes.page.page'.place

      came : Arrived frame from to
      came = arrived frame comes.page.page.origin.bytes from to comes.page.how.filled

      entered : ChangesEntry old.tables new.tables vpn (page_entry frame.number comes.page.page.origin.rights true false)
      entered = subst (λ o. IfSome o (λ (page : PageValue S). ChangesEntry old.tables new.tables vpn (page_entry frame.number page.origin.rights true false))) comes.page.found comes.entry

      pub come : HasCome frame vpn old new
      come = record {
        keeps = moved_keeps (BroughtIn held honest frame) old new vpn comes.page comes.process comes.page.how.origin;
        was = ap is_absent_stage (stage_before (BroughtIn held honest frame) old new vpn comes.page from to refl refl) ∙ came.absent;
        is = stage_after (BroughtIn held honest frame) old new vpn comes.page from to refl refl ∙ ap {B = Option PageState} (λ s. Some s) came.there;
        unframed = frame_before (BroughtIn held honest frame) old new vpn comes.page from to refl refl ∙ came.had;
        framed = ap (option_map (λ (f : FrameValue). f.number)) (frame_after (BroughtIn held honest frame) old new vpn comes.page from to refl refl) ∙ came.has;
        residents = λ test.
            let before : cond {A = ℕ} (is_resident_place from && test vpn) 1 0 ≡ 0 = ap (λ b. cond {A = ℕ} (b && test vpn) 1 0) came.was in
            let after : cond {A = ℕ} (is_resident_place to && test vpn) 1 0 ≡ cond (test vpn) 1 0 = ap (λ b. cond {A = ℕ} (b && test vpn) 1 0) came.is in
            let moved = moved_residents (BroughtIn held honest frame) old new vpn comes.page from to refl refl comes.small test in
            omega (arith, before, after, moved);
        savings = λ test.
            let before : cond {A = ℕ} (is_saving_place from && test vpn) 1 0 ≡ 0 = ap (λ b. cond {A = ℕ} (b && test vpn) 1 0) came.was_saved in
            let after : cond {A = ℕ} (is_saving_place to && test vpn) 1 0 ≡ 0 = ap (λ b. cond {A = ℕ} (b && test vpn) 1 0) came.is_saved in
            let moved = moved_savings (BroughtIn held honest frame) old new vpn comes.page from to refl refl comes.small test in
            omega (arith, before, after, moved);
        frames = λ test.
            let before : cond {A = ℕ} (frame_passes test (frame_of from)) 1 0 ≡ 0 = ap (λ o. cond {A = ℕ} (frame_passes test o) 1 0) came.had in
            let after : cond {A = ℕ} (frame_passes test (frame_of to)) 1 0 ≡ cond (test frame.number) 1 0 = ap (λ b. cond {A = ℕ} b 1 0) (number_passes test (frame_of to) frame.number came.has) in
            let moved = moved_frames (BroughtIn held honest frame) old new vpn comes.page from to refl refl comes.small test in
            omega (arith, before, after, moved);
        slots =
            let same : cond {A = ℕ} (is_kept (slot_of to)) 1 0 ≡ cond (is_kept (slot_of from)) 1 0 = ap (λ b. cond {A = ℕ} b 1 0) came.kept in
            let moved = moved_slots (BroughtIn held honest frame) old new vpn comes.page from to refl refl comes.small in
            omega (arith, same, moved);
        stay = moved_stay (BroughtIn held honest frame) old new vpn comes.page from to refl refl came.was_saved;
        copies =
            moved_copies (BroughtIn held honest frame) old new vpn comes.page (other_bits vpn _ old.tables new.tables entered) from to refl refl
            (came.untold (entry_at old.tables vpn).dirty (entry_at new.tables vpn).dirty);
      }

    -- ---- no page comes in, or a page is looked at

    -- an absent page that is absent still, with the slot that it had
    record StillAbsent (old new : Place S) : Type 0 where
      pub resident : is_resident_place new ≡ is_resident_place old
      pub saving : is_saving_place new ≡ is_saving_place old
      pub unsaved : is_saving_place old ≡ false
      pub there : page_state_of new ≡ page_state_of old
      pub frame : frame_of new ≡ frame_of old
      pub slot : is_kept (slot_of new) ≡ is_kept (slot_of old)
      pub untold : (dirty : Bool) → told_of_place dirty new ≡ told_of_place dirty old

    still_absent : (old new : Place S) → IfAbsent old (new ≡ Fresh) (λ _. IfAway new (λ _. Unit {0})) → StillAbsent old new
    still_absent Fresh new how = record {
      resident = ap is_resident_place how;
      saving = ap is_saving_place how;
      unsaved = refl;
      there = ap page_state_of how;
      frame = ap frame_of how;
      slot = ap (λ (p : Place S). is_kept (slot_of p)) how;
      untold = λ dirty. ap (told_of_place dirty) how;
    }
    still_absent (Resident f s) new how = absurd how
    still_absent (Leaving f s m) new how = absurd how
    still_absent (Saving f mark) new how = absurd how
    still_absent (Away s) Fresh how = absurd how
    still_absent (Away s) (Resident f k) how = absurd how
    still_absent (Away s) (Leaving f k m) how = absurd how
    still_absent (Away s) (Saving f mark) how = absurd how
    still_absent (Away s) (Away t) how = record { resident = refl; saving = refl; unsaved = refl; there = refl; frame = refl; slot = refl; untold = λ dirty. refl }
    still_absent (Away s) Purged how = absurd how
    still_absent Purged new how = absurd how

    module _ (old new : PagedValue S) (process : new.process ≡ old.process) (tables : new.tables ≡ old.tables) (vpn : ℕ) (small : vpn < 2 ^ 20) where
      module _ (stays : ChangesBy (StaysAbsent held honest) old.pages new.pages vpn) where
        still : StillAbsent stays.page.place stays.page'.place
        still = still_absent stays.page.place stays.page'.place stays.how.place

        pub absent_alike : CountsAlike old new
        absent_alike = record {
          process = process;
          residents = λ test.
              let same : cond {A = ℕ} (is_resident_place stays.page'.place && test vpn) 1 0 ≡ cond (is_resident_place stays.page.place && test vpn) 1 0 = ap (λ b. cond {A = ℕ} (b && test vpn) 1 0) still.resident in
              let moved = moved_residents (StaysAbsent held honest) old new vpn stays _ _ refl refl small test in
              omega (arith, same, moved);
          savings = λ test.
              let same : cond {A = ℕ} (is_saving_place stays.page'.place && test vpn) 1 0 ≡ cond (is_saving_place stays.page.place && test vpn) 1 0 = ap (λ b. cond {A = ℕ} (b && test vpn) 1 0) still.saving in
              let moved = moved_savings (StaysAbsent held honest) old new vpn stays _ _ refl refl small test in
              omega (arith, same, moved);
          frames = λ test.
              let same : cond {A = ℕ} (frame_passes test (frame_of stays.page'.place)) 1 0 ≡ cond (frame_passes test (frame_of stays.page.place)) 1 0 = ap (λ o. cond {A = ℕ} (frame_passes test o) 1 0) still.frame in
              let moved = moved_frames (StaysAbsent held honest) old new vpn stays _ _ refl refl small test in
              omega (arith, same, moved);
          slots =
              let same : cond {A = ℕ} (is_kept (slot_of stays.page'.place)) 1 0 ≡ cond (is_kept (slot_of stays.page.place)) 1 0 = ap (λ b. cond {A = ℕ} b 1 0) still.slot in
              let moved = moved_slots (StaysAbsent held honest) old new vpn stays _ _ refl refl small in
              omega (arith, same, moved);
          stay = moved_stay (StaysAbsent held honest) old new vpn stays _ _ refl refl still.unsaved;
          copies =
              moved_copies (StaysAbsent held honest) old new vpn stays (same_bits vpn old.tables new.tables tables) _ _ refl refl
              (still.untold (entry_at new.tables vpn).dirty ∙ ap (λ t. told_of_place (entry_at t vpn).dirty stays.page.place) tables);
        }

      pub refused_alike : (failures : S → ℕ) (frame back : FrameValue) (fault : PageInFault) → RefusesIn held honest failures frame vpn back fault old new → CountsAlike old new
      refused_alike failures frame back NotAbsent how = same_tables old new process how.1.0 tables
      refused_alike failures frame back Device how = absent_alike (record { page = how.0.page; page' = how.0.page'; found = how.0.found; changes = how.0.changes; how = how.0.how.stays })
      refused_alike failures frame back Damaged how = absent_alike (record { page = how.0.page; page' = how.0.page'; found = how.0.found; changes = how.0.changes; how = how.0.how.stays })
      refused_alike failures frame back NoMemory how = absent_alike (record { page = how.1.0.page; page' = how.1.0.page'; found = how.1.0.found; changes = how.1.0.changes; how = how.1.0.how.stays })

      left_alike : (o : Option (PageValue S)) → LeavesPage held honest old.pages new.pages vpn o → CountsAlike old new
      left_alike None left = same_tables old new process left tables
      left_alike (Some page) left = by_place page.place left
        where
          by_place : (place : Place S) → LeavesPlace held honest old.pages new.pages vpn place → CountsAlike old new
          by_place Fresh left = same_tables old new process left tables
          by_place (Resident frame kept) left = same_tables old new process left tables
          by_place (Leaving frame kept mark) left = same_tables old new process left tables
          by_place (Saving frame mark) left = same_tables old new process left tables
          by_place (Away slot) left = absent_alike left
          by_place Purged left = same_tables old new process left tables

    -- a page that is looked at
    pub looked_alike : (address : ℕ) (old new : PagedValue S) → address < 2 ^ 32 → OnlyPages old new → LeavesLookedAt held honest address old new → CountsAlike old new
    looked_alike address old new small stays left = left_alike old new (ap (λ (m : PagedValue S). m.process) stays) (ap (λ (m : PagedValue S). m.tables) stays) (page_number address) (omega (arith, small)) (page_at old.pages (page_number address)) left
