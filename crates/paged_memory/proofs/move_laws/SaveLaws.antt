-- What it does to a memory that a page that is leaving goes to its backing or to be saved, and that a save of it comes back.
use Rattle.std.proofs.Common.{◌≡◌, ℕ, ◌+◌, ◌^◌, ◌<◌, ◌≤◌, Bool, true, false, ◌&&◌, cond, Option, Some, None, option_map, is_some, refl, sym, ap, ◌∙◌, arith}
use Rattle.std.specs.Prelude.{IsTrue}
use Rattle.frame_pool.specs.FrameValue.{FrameValue}
use Rattle.page_store.specs.JobValue.{JobValue, SavedValue}
use Rattle.page_store.specs.Keeping.{kept, Keeping, NoSlot, Saved, Unbacked, Cleaning, CopyOut, is_copy_out}
use Rattle.page_store.specs.Moves.{copy_of, IfSaving}
use Rattle.page_store.specs.PageValue.{PageValue, Place, Fresh, Resident, Leaving, Saving, Away, Purged, frame_of, slot_of, page_state_of, is_out, changed}
use Rattle.page_store.specs.declared.state.PageState.TheVariants as stage
use Rattle.sv32_table.specs.EntryAt.{entry_at}
use Rattle.paged_memory.proofs.access_laws.AlikeLaws.{SavingsStay}
use Rattle.paged_memory.specs.cleaning.Copies.{LeavesCopies, if_out, told_of_place}
use Rattle.paged_memory.proofs.cleaning_laws.CopiesMoveLaws.{same_bits, moved_copies}
use Rattle.paged_memory.specs.Counting.{is_resident_place, is_saving_place, frame_passes, is_kept}
use Rattle.paged_memory.proofs.CountingLaws.{none_where_pass, some_where_pass, no_where_pass}
use Rattle.paged_memory.specs.moves.Leaving.{Frees, IsSaving}
use Rattle.paged_memory.proofs.move_laws.MoveLaws.{KeepsOthers, moved_keeps, stage_before, stage_after, frame_before, frame_after, slot_before, moved_stay, moved_residents, moved_savings, moved_frames, moved_slots}
use Rattle.paged_memory.specs.moves.Moving.{dropped_to, LetsGo, GoesToBacking, IsCopied, GoesToBeSaved, SavedAway, IsUnsaved, LeavesAgain, slot_in, IsOutOf, SavesSome, SavesNone}
use Rattle.paged_memory.specs.Paged.{PagedValue, page_at}
use Rattle.paged_memory.specs.moves.Stages.{is_absent_stage, is_saving_stage}
use Rattle.paged_memory.specs.Whole.{stage_in, frame_in, is_out_in, outs_within, residents_among, savings_among, frames_among, slots_within}

module _ {S : Type 0} where
  -- ---- where a page goes that lets its frame go

  absent : (slot : Keeping S) → is_absent_stage (Some (page_state_of (dropped_to slot))) ≡ true
  absent NoSlot = refl
  absent (Saved slot) = refl
  absent (Unbacked None) = refl
  absent (Unbacked (Some slot)) = refl
  absent (Cleaning None) = refl
  absent (Cleaning (Some slot)) = refl
  absent CopyOut = refl

  unresident : (slot : Keeping S) → is_resident_place (dropped_to slot) ≡ false
  unresident NoSlot = refl
  unresident (Saved slot) = refl
  unresident (Unbacked None) = refl
  unresident (Unbacked (Some slot)) = refl
  unresident (Cleaning None) = refl
  unresident (Cleaning (Some slot)) = refl
  unresident CopyOut = refl

  unsaving : (slot : Keeping S) → is_saving_place (dropped_to slot) ≡ false
  unsaving NoSlot = refl
  unsaving (Saved slot) = refl
  unsaving (Unbacked None) = refl
  unsaving (Unbacked (Some slot)) = refl
  unsaving (Cleaning None) = refl
  unsaving (Cleaning (Some slot)) = refl
  unsaving CopyOut = refl

  frameless : (slot : Keeping S) → frame_of (dropped_to slot) ≡ None
  frameless NoSlot = refl
  frameless (Saved slot) = refl
  frameless (Unbacked None) = refl
  frameless (Unbacked (Some slot)) = refl
  frameless (Cleaning None) = refl
  frameless (Cleaning (Some slot)) = refl
  frameless CopyOut = refl

  as_kept : (slot : Keeping S) → is_kept (slot_of (dropped_to slot)) ≡ is_kept slot
  as_kept NoSlot = refl
  as_kept (Saved slot) = refl
  as_kept (Unbacked None) = refl
  as_kept (Unbacked (Some slot)) = refl
  as_kept (Cleaning None) = refl
  as_kept (Cleaning (Some slot)) = refl
  as_kept CopyOut = refl

  kept_is : (slot : Keeping S) → is_kept slot ≡ is_some (kept slot)
  kept_is NoSlot = refl
  kept_is (Saved slot) = refl
  kept_is (Unbacked slot) = refl
  kept_is (Cleaning slot) = refl
  kept_is CopyOut = refl

  -- no copy is out of a page that keeps something else, or nothing
  untold : {A : Type 0} (told : A) (slot : Keeping S) → is_copy_out slot ≡ false → if_out slot told ≡ None
  untold told NoSlot h = refl
  untold told (Saved slot) h = refl
  untold told (Unbacked slot) h = refl
  untold told (Cleaning slot) h = refl
  untold told CopyOut h = cc

  untold_dropped : (dirty : Bool) (slot : Keeping S) → told_of_place dirty (dropped_to slot) ≡ None
  untold_dropped dirty NoSlot = refl
  untold_dropped dirty (Saved slot) = refl
  untold_dropped dirty (Unbacked None) = refl
  untold_dropped dirty (Unbacked (Some slot)) = refl
  untold_dropped dirty (Cleaning None) = refl
  untold_dropped dirty (Cleaning (Some slot)) = refl
  untold_dropped dirty CopyOut = refl

  -- nor of a page that is leaving and counts as unchanged
  unchanged_unheld : (frame : FrameValue) (mark : Bool) (slot : Keeping S) → changed false (Leaving frame slot mark) ≡ false → is_copy_out slot ≡ false
  unchanged_unheld frame mark NoSlot h = refl
  unchanged_unheld frame mark (Saved slot) h = refl
  unchanged_unheld frame mark (Unbacked slot) h = refl
  unchanged_unheld frame mark (Cleaning slot) h = refl
  unchanged_unheld frame true CopyOut h = cc
  unchanged_unheld frame false CopyOut h = cc

  -- it is absent, and has let this frame go
  pub record HasGone (vpn : ℕ) (frame : FrameValue) (old new : PagedValue S) : Type 0 where
    pub keeps : KeepsOthers vpn old new
    pub was : stage_in old vpn ≡ Some stage.Leaving
    pub is : is_absent_stage (stage_in new vpn) ≡ true
    pub framed : frame_in old vpn ≡ Some frame
    pub unframed : frame_in new vpn ≡ None
    pub residents : (test : ℕ → Bool) → residents_among new test ≡ residents_among old test
    pub savings : (test : ℕ → Bool) → savings_among new test ≡ savings_among old test
    pub frames : (test : ℕ → Bool) → frames_among new test + cond (test frame.number) 1 0 ≡ frames_among old test
    pub slots : slots_within new ≡ slots_within old
    pub stay : SavingsStay old new
    pub copies : LeavesCopies old new

  module _ (vpn : ℕ) (frame : FrameValue) (old new : PagedValue S) (goes : GoesToBacking vpn frame old new) where
    abbrev kept_slot : Keeping S
    kept_slot = goes.page.how.slot

    gone_to : goes.page.page'.place ≡ dropped_to kept_slot
    gone_to = ap (λ (p : PageValue S). p.place) goes.page.how.is

    unheld : is_copy_out kept_slot ≡ false
    unheld = unchanged_unheld frame goes.page.how.mark kept_slot (ap (λ (p : Place S). changed false p) (sym goes.page.how.was) ∙ goes.page.how.unchanged)

    pub gone : HasGone vpn frame old new
    gone = record {
      keeps = moved_keeps (LetsGo frame) old new vpn goes.page (ap (λ (m : PagedValue S). m.process) goes.stays) (ap (λ (p : PageValue S). p.origin) goes.page.how.is);
      was = stage_before (LetsGo frame) old new vpn goes.page _ _ goes.page.how.was gone_to;
      is = ap is_absent_stage (stage_after (LetsGo frame) old new vpn goes.page _ _ goes.page.how.was gone_to) ∙ absent kept_slot;
      framed = frame_before (LetsGo frame) old new vpn goes.page _ _ goes.page.how.was gone_to;
      unframed = frame_after (LetsGo frame) old new vpn goes.page _ _ goes.page.how.was gone_to ∙ frameless kept_slot;
      residents = λ test.
          let after : cond {A = ℕ} (is_resident_place (dropped_to kept_slot) && test vpn) 1 0 ≡ 0 = ap (λ b. cond {A = ℕ} (b && test vpn) 1 0) (unresident kept_slot) in
          let moved : residents_among new test + 0 ≡ residents_among old test + cond (is_resident_place (dropped_to kept_slot) && test vpn) 1 0 = moved_residents (LetsGo frame) old new vpn goes.page _ _ goes.page.how.was gone_to goes.small test in
          omega (arith, after, moved);
      savings = λ test.
          let after : cond {A = ℕ} (is_saving_place (dropped_to kept_slot) && test vpn) 1 0 ≡ 0 = ap (λ b. cond {A = ℕ} (b && test vpn) 1 0) (unsaving kept_slot) in
          let moved : savings_among new test + 0 ≡ savings_among old test + cond (is_saving_place (dropped_to kept_slot) && test vpn) 1 0 = moved_savings (LetsGo frame) old new vpn goes.page _ _ goes.page.how.was gone_to goes.small test in
          omega (arith, after, moved);
      frames = λ test.
          let after : cond {A = ℕ} (frame_passes test (frame_of (dropped_to kept_slot))) 1 0 ≡ 0 = ap (λ o. cond {A = ℕ} (frame_passes test o) 1 0) (frameless kept_slot) in
          let moved : frames_among new test + cond (test frame.number) 1 0 ≡ frames_among old test + cond (frame_passes test (frame_of (dropped_to kept_slot))) 1 0 = moved_frames (LetsGo frame) old new vpn goes.page _ _ goes.page.how.was gone_to goes.small test in
          omega (arith, after, moved);
      slots =
          let after : cond {A = ℕ} (is_kept (slot_of (dropped_to kept_slot))) 1 0 ≡ cond (is_kept kept_slot) 1 0 = ap (λ b. cond {A = ℕ} b 1 0) (as_kept kept_slot) in
          let moved : slots_within new + cond (is_kept kept_slot) 1 0 ≡ slots_within old + cond (is_kept (slot_of (dropped_to kept_slot))) 1 0 = moved_slots (LetsGo frame) old new vpn goes.page _ _ goes.page.how.was gone_to goes.small in
          omega (arith, after, moved);
      stay = moved_stay (LetsGo frame) old new vpn goes.page _ _ goes.page.how.was gone_to refl;
      copies =
          moved_copies (LetsGo frame) old new vpn goes.page (same_bits vpn old.tables new.tables (ap (λ (m : PagedValue S). m.tables) goes.stays)) _ _ goes.page.how.was gone_to
          (untold_dropped (entry_at new.tables vpn).dirty kept_slot ∙ sym (untold (goes.page.how.mark, frame.bytes) kept_slot unheld));
    }

  -- ---- a page that goes to be saved

  -- it is being saved, in its frame, which holds the copy; its slot is with the job
  pub record IsBeingSaved (vpn : ℕ) (job : JobValue S) (old new : PagedValue S) : Type 0 where
    pub keeps : KeepsOthers vpn old new
    pub was : stage_in old vpn ≡ Some stage.Leaving
    pub is : stage_in new vpn ≡ Some stage.Saving
    pub frame : FrameValue
    pub framed : frame_in old vpn ≡ Some frame
    pub framed_still : frame_in new vpn ≡ Some frame
    pub copy : job.copy ≡ frame.bytes
    pub residents : (test : ℕ → Bool) → residents_among new test ≡ residents_among old test
    pub savings : (test : ℕ → Bool) → savings_among new test ≡ savings_among old test + cond (test vpn) 1 0
    pub frames : (test : ℕ → Bool) → frames_among new test ≡ frames_among old test
    pub slots : slots_within new + cond (is_some (slot_in old vpn)) 1 0 ≡ slots_within old
    pub stay : SavingsStay old new
    pub copies : LeavesCopies old new

  module _ (vpn : ℕ) (job : JobValue S) (old new : PagedValue S) (goes : GoesToBeSaved vpn job old new) where
    abbrev copied_frame : FrameValue
    copied_frame = goes.page.how.frame

    copied_to : goes.page.page'.place ≡ Saving copied_frame goes.page.how.mark
    copied_to = ap (λ (p : PageValue S). p.place) goes.page.how.is

    pub being_saved : IsBeingSaved vpn job old new
    being_saved = record {
      keeps = moved_keeps (IsCopied job) old new vpn goes.page (ap (λ (m : PagedValue S). m.process) goes.stays) (ap (λ (p : PageValue S). p.origin) goes.page.how.is);
      was = stage_before (IsCopied job) old new vpn goes.page _ _ goes.page.how.was copied_to;
      is = stage_after (IsCopied job) old new vpn goes.page _ _ goes.page.how.was copied_to;
      frame = copied_frame;
      framed = frame_before (IsCopied job) old new vpn goes.page _ _ goes.page.how.was copied_to;
      framed_still = frame_after (IsCopied job) old new vpn goes.page _ _ goes.page.how.was copied_to;
      copy = goes.page.how.copy;
      residents = λ test. let moved : residents_among new test + 0 ≡ residents_among old test + 0 = moved_residents (IsCopied job) old new vpn goes.page _ _ goes.page.how.was copied_to goes.small test in omega (arith, moved);
      savings = λ test. let moved : savings_among new test + 0 ≡ savings_among old test + cond (test vpn) 1 0 = moved_savings (IsCopied job) old new vpn goes.page _ _ goes.page.how.was copied_to goes.small test in omega (arith, moved);
      frames = λ test. let moved : frames_among new test + cond (test copied_frame.number) 1 0 ≡ frames_among old test + cond (test copied_frame.number) 1 0 = moved_frames (IsCopied job) old new vpn goes.page _ _ goes.page.how.was copied_to goes.small test in omega (arith, moved);
      slots =
          let own : cond {A = ℕ} (is_some (slot_in old vpn)) 1 0 ≡ cond (is_kept goes.page.how.slot) 1 0 = ap (λ o. cond {A = ℕ} (is_some o) 1 0) (slot_before (IsCopied job) old new vpn goes.page _ _ goes.page.how.was copied_to) ∙ sym (ap (λ b. cond {A = ℕ} b 1 0) (kept_is goes.page.how.slot)) in
          let moved : slots_within new + cond (is_kept goes.page.how.slot) 1 0 ≡ slots_within old + 0 = moved_slots (IsCopied job) old new vpn goes.page _ _ goes.page.how.was copied_to goes.small in
          omega (arith, own, moved);
      stay = moved_stay (IsCopied job) old new vpn goes.page _ _ goes.page.how.was copied_to refl;
      copies =
          moved_copies (IsCopied job) old new vpn goes.page (same_bits vpn old.tables new.tables (ap (λ (m : PagedValue S). m.tables) goes.stays)) _ _ goes.page.how.was copied_to
          (sym (untold (goes.page.how.mark, copied_frame.bytes) goes.page.how.slot goes.page.how.alone));
    }

  -- ---- a save comes back

  -- its page is in its slot, and has let this frame go, which holds what was saved
  pub record HasGoneAway (job : SavedValue S) (frame : FrameValue) (old new : PagedValue S) : Type 0 where
    pub process : job.process ≡ old.process
    pub small : job.vpn < 2 ^ 20
    pub keeps : KeepsOthers job.vpn old new
    pub was : stage_in old job.vpn ≡ Some stage.Saving
    pub is : stage_in new job.vpn ≡ Some stage.Away
    pub framed : frame_in old job.vpn ≡ Some frame
    pub unframed : frame_in new job.vpn ≡ None
    pub same : frame.bytes ≡ job.copy
    pub passed : IsTrue job.passed
    pub residents : (test : ℕ → Bool) → residents_among new test ≡ residents_among old test
    pub savings : (test : ℕ → Bool) → savings_among new test + cond (test job.vpn) 1 0 ≡ savings_among old test
    pub frames : (test : ℕ → Bool) → frames_among new test + cond (test frame.number) 1 0 ≡ frames_among old test
    pub slots : slots_within new ≡ slots_within old + 1
    pub copies : LeavesCopies old new

  module _ (job : SavedValue S) (frame : FrameValue) (old new : PagedValue S) (saved : SavedAway job frame old new) where
    away_to : saved.page.1.1.page'.place ≡ Away (copy_of job)
    away_to = ap (λ (p : PageValue S). p.place) saved.page.1.1.how.is

    pub gone_away : HasGoneAway job frame old new
    gone_away = record {
      process = saved.page.0;
      small = saved.page.1.0;
      keeps = moved_keeps (Frees job frame) old new job.vpn saved.page.1.1 (ap (λ (m : PagedValue S). m.process) saved.stays) (ap (λ (p : PageValue S). p.origin) saved.page.1.1.how.is);
      was = stage_before (Frees job frame) old new job.vpn saved.page.1.1 _ _ saved.page.1.1.how.was away_to;
      is = stage_after (Frees job frame) old new job.vpn saved.page.1.1 _ _ saved.page.1.1.how.was away_to;
      framed = frame_before (Frees job frame) old new job.vpn saved.page.1.1 _ _ saved.page.1.1.how.was away_to;
      unframed = frame_after (Frees job frame) old new job.vpn saved.page.1.1 _ _ saved.page.1.1.how.was away_to;
      same = saved.page.1.1.how.same;
      passed = saved.page.1.1.how.passed;
      residents = λ test. let moved : residents_among new test + 0 ≡ residents_among old test + 0 = moved_residents (Frees job frame) old new job.vpn saved.page.1.1 _ _ saved.page.1.1.how.was away_to saved.page.1.0 test in omega (arith, moved);
      savings = λ test. let moved : savings_among new test + cond (test job.vpn) 1 0 ≡ savings_among old test + 0 = moved_savings (Frees job frame) old new job.vpn saved.page.1.1 _ _ saved.page.1.1.how.was away_to saved.page.1.0 test in omega (arith, moved);
      frames = λ test. let moved : frames_among new test + cond (test frame.number) 1 0 ≡ frames_among old test + 0 = moved_frames (Frees job frame) old new job.vpn saved.page.1.1 _ _ saved.page.1.1.how.was away_to saved.page.1.0 test in omega (arith, moved);
      slots = let moved : slots_within new + 0 ≡ slots_within old + 1 = moved_slots (Frees job frame) old new job.vpn saved.page.1.1 _ _ saved.page.1.1.how.was away_to saved.page.1.0 in omega (arith, moved);
      copies = moved_copies (Frees job frame) old new job.vpn saved.page.1.1 (same_bits job.vpn old.tables new.tables (ap (λ (m : PagedValue S). m.tables) saved.stays)) _ _ saved.page.1.1.how.was away_to refl;
    }

  -- it failed: its page is leaving again, in its frame, which shows the failure, and has the slot of the save
  pub record IsLeavingAgain (shows : FrameValue → Type 0) (job : SavedValue S) (old new : PagedValue S) : Type 0 where
    pub process : job.process ≡ old.process
    pub small : job.vpn < 2 ^ 20
    pub keeps : KeepsOthers job.vpn old new
    pub was : stage_in old job.vpn ≡ Some stage.Saving
    pub is : stage_in new job.vpn ≡ Some stage.Leaving
    pub frame : FrameValue
    pub framed : frame_in old job.vpn ≡ Some frame
    pub framed_still : frame_in new job.vpn ≡ Some frame
    pub failed : shows frame
    pub residents : (test : ℕ → Bool) → residents_among new test ≡ residents_among old test
    pub savings : (test : ℕ → Bool) → savings_among new test + cond (test job.vpn) 1 0 ≡ savings_among old test
    pub frames : (test : ℕ → Bool) → frames_among new test ≡ frames_among old test
    pub slots : slots_within new ≡ slots_within old + 1
    pub copies : LeavesCopies old new

  module _ (shows : FrameValue → Type 0) (job : SavedValue S) (old new : PagedValue S) (leaves : LeavesAgain shows job old new) where
    abbrev failed_frame : FrameValue
    failed_frame = leaves.page.1.1.how.frame

    again_to : leaves.page.1.1.page'.place ≡ Leaving failed_frame (Unbacked (Some job.slot)) leaves.page.1.1.how.mark
    again_to = ap (λ (p : PageValue S). p.place) leaves.page.1.1.how.is

    pub leaving_again : IsLeavingAgain shows job old new
    leaving_again = record {
      process = leaves.page.0;
      small = leaves.page.1.0;
      keeps = moved_keeps (IsUnsaved shows job) old new job.vpn leaves.page.1.1 (ap (λ (m : PagedValue S). m.process) leaves.stays) (ap (λ (p : PageValue S). p.origin) leaves.page.1.1.how.is);
      was = stage_before (IsUnsaved shows job) old new job.vpn leaves.page.1.1 _ _ leaves.page.1.1.how.was again_to;
      is = stage_after (IsUnsaved shows job) old new job.vpn leaves.page.1.1 _ _ leaves.page.1.1.how.was again_to;
      frame = failed_frame;
      framed = frame_before (IsUnsaved shows job) old new job.vpn leaves.page.1.1 _ _ leaves.page.1.1.how.was again_to;
      framed_still = frame_after (IsUnsaved shows job) old new job.vpn leaves.page.1.1 _ _ leaves.page.1.1.how.was again_to;
      failed = leaves.page.1.1.how.failed;
      residents = λ test. let moved : residents_among new test + 0 ≡ residents_among old test + 0 = moved_residents (IsUnsaved shows job) old new job.vpn leaves.page.1.1 _ _ leaves.page.1.1.how.was again_to leaves.page.1.0 test in omega (arith, moved);
      savings = λ test. let moved : savings_among new test + cond (test job.vpn) 1 0 ≡ savings_among old test + 0 = moved_savings (IsUnsaved shows job) old new job.vpn leaves.page.1.1 _ _ leaves.page.1.1.how.was again_to leaves.page.1.0 test in omega (arith, moved);
      frames = λ test. let moved : frames_among new test + cond (test failed_frame.number) 1 0 ≡ frames_among old test + cond (test failed_frame.number) 1 0 = moved_frames (IsUnsaved shows job) old new job.vpn leaves.page.1.1 _ _ leaves.page.1.1.how.was again_to leaves.page.1.0 test in omega (arith, moved);
      slots = let moved : slots_within new + 0 ≡ slots_within old + 1 = moved_slots (IsUnsaved shows job) old new job.vpn leaves.page.1.1 _ _ leaves.page.1.1.how.was again_to leaves.page.1.0 in omega (arith, moved);
      copies = moved_copies (IsUnsaved shows job) old new job.vpn leaves.page.1.1 (same_bits job.vpn old.tables new.tables (ap (λ (m : PagedValue S). m.tables) leaves.stays)) _ _ leaves.page.1.1.how.was again_to refl;
    }

  -- ---- whether a save is out

  saving_is : (o : Option (PageValue S)) → is_saving_stage (option_map (λ (page : PageValue S). page_state_of page.place) o) ≡ true → IsSaving o
  saving_is None h = cc
  saving_is (Some page) h = by_place page.place h
    where
      by_place : (place : Place S) → is_saving_stage (Some (page_state_of place)) ≡ true → IfSaving place (λ _ _. Unit {0})
      by_place Fresh h = cc
      by_place (Resident frame slot) h = cc
      by_place (Leaving frame slot mark) h = cc
      by_place (Saving frame mark) h = tt
      by_place (Away slot) h = cc
      by_place Purged h = cc

  pub out_of : (job : SavedValue S) (memory : PagedValue S) → job.process ≡ memory.process → job.vpn < 2 ^ 20 → is_saving_stage (stage_in memory job.vpn) ≡ true → IsOutOf job memory
  out_of job memory process small is = (process, (small, saving_is (page_at memory.pages job.vpn) is))

  -- bytes of some page are out, and so one at least is counted
  pub some_save : (memory : PagedValue S) → SavesSome memory → 1 ≤ outs_within memory
  some_save memory saves = some_where_pass (λ number page. is_out page.place) memory.pages saves.number saves.small saves.out

  -- none are, and so none is counted
  pub none_save : (memory : PagedValue S) → SavesNone memory → outs_within memory ≡ 0
  none_save memory none = none_where_pass (λ number page. is_out page.place) memory.pages none

  -- where none is counted, each page tells so
  pub none_saved : (memory : PagedValue S) → outs_within memory ≡ 0 → (number : ℕ) → number < 2 ^ 20 → is_out_in memory number ≡ false
  none_saved memory none number small = no_where_pass (λ number page. is_out page.place) memory.pages none number small
