-- What it does to a memory that a page's cleaning begins, that a copy of it goes out, and that the copy comes back.
use Rattle.std.proofs.Common.{◌≡◌, ℕ, ◌+◌, ◌^◌, ◌<◌, Bool, true, false, ◌&&◌, cond, Option, Some, None, Result, Ok, option_and_then, is_some, inl, inr, refl, sym, ap, ◌∙◌, arith, subst}
use Rattle.std.proofs.lemmas.Bool.Decides.{eqb_tells}
use Rattle.frame_pool.specs.FrameValue.{FrameValue}
use Rattle.page_store.specs.Cleaning.{begun, begun_keeping, resident_with, CopiedPage, copied_clean, copy_resident, copy_cleaning, copy_unmarked, copy_for_spare, IfCopyOut, keeping}
use Rattle.page_store.specs.JobValue.{JobValue, SavedValue}
use Rattle.page_store.specs.Keeping.{Keeping, NoSlot, Saved, Unbacked, Cleaning, CopyOut, is_copy_out, kept}
use Rattle.page_store.specs.Moves.{copy_of, job_of}
use Rattle.page_store.specs.PageValue.{PageValue, Place, Fresh, Resident, Leaving, Saving, Away, Purged, frame_of, slot_of, page_state_of}
use Rattle.page_store.specs.declared.answer.CleanCopy.{CleanCopy}
use Rattle.page_store.specs.declared.answer.CleanCopy.TheVariants as answer
use Rattle.page_store.specs.declared.answer.Cleaned.{Cleaned}
use Rattle.page_store.specs.declared.answer.Cleaned.TheVariants as end
use Rattle.page_store.specs.declared.refusal.CleanRefusal.{CleanRefusal}
use Rattle.page_store.specs.declared.state.PageState.{PageState}
use Rattle.sv32_table.specs.EntryAt.{entry_at, dirty_of}
use Rattle.paged_memory.proofs.access_laws.AlikeLaws.{SavingsStay, CountsAlike, same_stay, same_tables}
use Rattle.paged_memory.specs.Calls.{ChangesBy}
use Rattle.paged_memory.specs.cleaning.Cleaning.{StartsClean, BeginsCleaning, Copies, CopiesAt, CopiesPage, EndsCleaningIn}
use Rattle.paged_memory.specs.cleaning.Copies.{CopyGoesOut, CopyComesBack, copies_among, if_out, told_of_place}
use Rattle.paged_memory.proofs.cleaning_laws.CopiesMoveLaws.{out_stands, OtherBits, same_bits, other_bits, moved_copies, moved_outs, copied_before, copied_after, moved_other_copies}
use Rattle.paged_memory.specs.Counting.{is_resident_place, is_saving_place, frame_passes, is_kept}
use Rattle.paged_memory.proofs.access_laws.LooksLaws.{TakesSpare}
use Rattle.paged_memory.proofs.move_laws.MoveLaws.{KeepsOthers, moved_keeps, moved_now, moved_others, stage_before, stage_after, frame_before, frame_after, moved_stay, moved_residents, moved_savings, moved_frames, moved_slots}
use Rattle.paged_memory.specs.moves.Moving.{OnlyPages, SamePage, slot_in}
use Rattle.paged_memory.specs.Paged.{PagedValue, page_at}
use Rattle.paged_memory.specs.Soundness.{is_marked}
use Rattle.paged_memory.specs.Whole.{stage_in, frame_in, residents_among, savings_among, frames_among, slots_within}

module _ {S : Type 0} where
  -- ---- a page that stays in its frame, and keeps something else

  pub record StaysInPlace (vpn : ℕ) (old new : PagedValue S) : Type 0 where
    pub keeps : KeepsOthers vpn old new
    pub stage : stage_in new vpn ≡ stage_in old vpn
    pub frame : frame_in new vpn ≡ frame_in old vpn
    pub residents : (test : ℕ → Bool) → residents_among new test ≡ residents_among old test
    pub savings : (test : ℕ → Bool) → savings_among new test ≡ savings_among old test
    pub frames : (test : ℕ → Bool) → frames_among new test ≡ frames_among old test
    pub stay : SavingsStay old new

  record Rekept (from to : Place S) : Type 0 where
    pub resident : is_resident_place to ≡ is_resident_place from
    pub saving : is_saving_place to ≡ is_saving_place from
    pub unsaved : is_saving_place from ≡ false
    pub there : page_state_of to ≡ page_state_of from
    pub frame : frame_of to ≡ frame_of from

  rekept_resident : (frame : FrameValue) (slot now : Keeping S) → Rekept (Resident frame slot) (Resident frame now)
  rekept_resident frame slot now = record { resident = refl; saving = refl; unsaved = refl; there = refl; frame = refl }

  rekept_leaving : (frame : FrameValue) (slot now : Keeping S) (mark : Bool) → Rekept (Leaving frame slot mark) (Leaving frame now mark)
  rekept_leaving frame slot now mark = record { resident = refl; saving = refl; unsaved = refl; there = refl; frame = refl }

  module _ (by : PageValue S → PageValue S → Type 0) (old new : PagedValue S) (vpn : ℕ) (small : vpn < 2 ^ 20) (told : ChangesBy by old.pages new.pages vpn) (process : new.process ≡ old.process) (origin : told.page'.origin ≡ told.page.origin) (from to : Place S) (was : told.page.place ≡ from) (is : told.page'.place ≡ to) where
    rekept_stays : Rekept from to → StaysInPlace vpn old new
    rekept_stays rekept = record {
      keeps = moved_keeps by old new vpn told process origin;
      stage = stage_after by old new vpn told from to was is ∙ ap {B = Option PageState} (λ s. Some s) rekept.there ∙ sym (stage_before by old new vpn told from to was is);
      frame = frame_after by old new vpn told from to was is ∙ rekept.frame ∙ sym (frame_before by old new vpn told from to was is);
      residents = λ test.
          let same : cond {A = ℕ} (is_resident_place to && test vpn) 1 0 ≡ cond (is_resident_place from && test vpn) 1 0 = ap (λ b. cond {A = ℕ} (b && test vpn) 1 0) rekept.resident in
          let moved = moved_residents by old new vpn told from to was is small test in
          omega (arith, same, moved);
      savings = λ test.
          let same : cond {A = ℕ} (is_saving_place to && test vpn) 1 0 ≡ cond (is_saving_place from && test vpn) 1 0 = ap (λ b. cond {A = ℕ} (b && test vpn) 1 0) rekept.saving in
          let moved = moved_savings by old new vpn told from to was is small test in
          omega (arith, same, moved);
      frames = λ test.
          let same : cond {A = ℕ} (frame_passes test (frame_of to)) 1 0 ≡ cond (frame_passes test (frame_of from)) 1 0 = ap (λ o. cond {A = ℕ} (frame_passes test o) 1 0) rekept.frame in
          let moved = moved_frames by old new vpn told from to was is small test in
          omega (arith, same, moved);
      stay = moved_stay by old new vpn told from to was is rekept.unsaved;
    }

    -- where it has as many slots, and the same is told of its copy, everything counts as before
    rekept_alike : Rekept from to → OtherBits vpn old.tables new.tables → is_kept (slot_of to) ≡ is_kept (slot_of from)
        → told_of_place (entry_at new.tables vpn).dirty to ≡ told_of_place (entry_at old.tables vpn).dirty from → CountsAlike old new
    rekept_alike rekept bits slots here =
        let stays = rekept_stays rekept in
        record {
          process = process;
          residents = stays.residents;
          savings = stays.savings;
          frames = stays.frames;
          slots =
              let same : cond {A = ℕ} (is_kept (slot_of to)) 1 0 ≡ cond (is_kept (slot_of from)) 1 0 = ap (λ b. cond {A = ℕ} b 1 0) slots in
              let moved = moved_slots by old new vpn told from to was is small in
              omega (arith, same, moved);
          stay = stays.stay;
          copies = moved_copies by old new vpn told bits from to was is here;
        }

  -- ---- a cleaning begins

  record Begun (place place' : Place S) : Type 0 where
    pub frame : FrameValue
    pub slot : Keeping S
    pub own : Option S
    pub was : place ≡ Resident frame slot
    pub is : place' ≡ Resident frame (Cleaning own)
    pub kept : is_some own ≡ is_kept slot
    pub alone : is_copy_out slot ≡ false

  begun_place : (ended dirty : Bool) (place place' : Place S) → begun ended dirty place ≡ Ok place' → Begun place place'
  begun_place ended dirty Fresh place' is = cc
  begun_place ended dirty (Resident frame slot) place' is = by_slot slot ended dirty is
    where
      told : (slot : Keeping S) (own : Option S) → is_some own ≡ is_kept slot → is_copy_out slot ≡ false → ◌≡◌ {A = Result (Place S) CleanRefusal} (Ok (Resident frame (Cleaning own))) (Ok place') → Begun (Resident frame slot) place'
      told slot own as_many alone is = let place : Resident frame (Cleaning own) ≡ place' = cc in record { frame = frame; slot = slot; own = own; was = refl; is = sym place; kept = as_many; alone = alone }

      by_slot : (slot : Keeping S) (over d : Bool) → resident_with frame (begun_keeping over d slot) ≡ Ok place' → Begun (Resident frame slot) place'
      by_slot NoSlot over true is = told NoSlot None refl refl is
      by_slot NoSlot over false is = cc
      by_slot (Saved copy) over true is = told (Saved copy) (Some copy.slot) refl refl is
      by_slot (Saved copy) over false is = cc
      by_slot (Unbacked own) over d is = told (Unbacked own) own refl refl is
      by_slot (Cleaning own) true d is = told (Cleaning own) own refl refl is
      by_slot (Cleaning own) false d is = cc
      by_slot CopyOut over d is = cc
  begun_place ended dirty (Leaving frame slot mark) place' is = cc
  begun_place ended dirty (Saving frame mark) place' is = cc
  begun_place ended dirty (Away copy) place' is = cc
  begun_place ended dirty Purged place' is = cc

  untold : {A : Type 0} (told : A) (slot : Keeping S) → is_copy_out slot ≡ false → None ≡ if_out slot told
  untold told NoSlot h = refl
  untold told (Saved copy) h = refl
  untold told (Unbacked own) h = refl
  untold told (Cleaning own) h = refl
  untold told CopyOut h = cc

  pub begins_alike : (ended : Bool) (vpn : ℕ) (old new : PagedValue S) → vpn < 2 ^ 20 → BeginsCleaning ended vpn old new → CountsAlike old new
  begins_alike ended vpn old new small begins =
      let starts = begun_place ended (dirty_of (entry_at old.tables vpn)) begins.page.page.place begins.page.page'.place begins.page.how.place in
      rekept_alike (StartsClean ended (dirty_of (entry_at old.tables vpn))) old new vpn small begins.page begins.process begins.page.how.origin _ _ starts.was starts.is
      (rekept_resident starts.frame starts.slot (Cleaning starts.own)) (other_bits vpn _ old.tables new.tables begins.entry) starts.kept
      (untold ((entry_at old.tables vpn).dirty, starts.frame.bytes) starts.slot starts.alone)

  -- ---- a copy goes out

  -- it takes the page's slot along, or the spare one, and stands for the page
  pub record HasCopied (vpn : ℕ) (job : JobValue S) (spare spare' : Option S) (old new : PagedValue S) : Type 0 where
    pub stays : StaysInPlace vpn old new
    pub process : job.process ≡ old.process
    pub vpn_is : job.vpn ≡ vpn
    pub takes : TakesSpare (slot_in old vpn) job.slot spare spare'
    pub slots : slots_within new + cond (is_some (slot_in old vpn)) 1 0 ≡ slots_within old
    pub copies : (test : ℕ → Bool) → copies_among new test ≡ copies_among old test + cond (test vpn) 1 0
    pub goes : CopyGoesOut vpn job.copy old new

  module _ (vpn : ℕ) (spare spare' : Option S) (old new : PagedValue S) where
    abbrev pub CopyComesTo : CleanCopy S → Type 0
    CopyComesTo answer.NotCleaning = CountsAlike old new × (spare' ≡ spare)
    CopyComesTo answer.Stored = CountsAlike old new × (spare' ≡ spare)
    CopyComesTo answer.NotYet = CountsAlike old new × (spare' ≡ spare)
    CopyComesTo answer.NoSlot = CountsAlike old new × ((spare ≡ None) × (spare' ≡ None))
    CopyComesTo (answer.Copied job) = HasCopied vpn job spare spare' old new

  module _ (vpn : ℕ) (small : vpn < 2 ^ 20) (spare spare' : Option S) (old new : PagedValue S) (stays : OnlyPages old new) (by : PageValue S → PageValue S → Type 0) (told : ChangesBy by old.pages new.pages vpn) (origin : told.page'.origin ≡ told.page.origin) where
    process_stays : new.process ≡ old.process
    process_stays = ap (λ (m : PagedValue S). m.process) stays

    tables_stay : new.tables ≡ old.tables
    tables_stay = ap (λ (m : PagedValue S). m.tables) stays

    abbrev After : Option S → Place S → CopiedPage S → Type 0
    After given place to = told.page.place ≡ place → told.page'.place ≡ to.0 → spare ≡ given → spare' ≡ to.1.0 → CopyComesTo vpn spare spare' old new to.1.1

    same_page : (place : Place S) → told.page.place ≡ place → told.page'.place ≡ place → (number : ℕ) → SamePage old new number
    same_page place was is number =
        elim (eqb_tells number vpn) [
          | inl here ↦
              let page : told.page' ≡ told.page = ap (λ o. record { origin = o; place = told.page'.place }) origin ∙ ap (λ p. record { origin = told.page.origin; place = p }) (is ∙ sym was) in
              ap (page_at new.pages) here.1 ∙ moved_now by old new vpn told ∙ ap {B = Option (PageValue S)} (λ p. Some p) page ∙ sym told.found ∙ sym (ap (page_at old.pages) here.1)
          | inr other ↦ moved_others by old new vpn told number other.1
        ]

    same_place : (place : Place S) → told.page.place ≡ place → told.page'.place ≡ place → CountsAlike old new
    same_place place was is = record {
      process = process_stays;
      residents = λ test. let moved = moved_residents by old new vpn told place place was is small test in omega (arith, moved);
      savings = λ test. let moved = moved_savings by old new vpn told place place was is small test in omega (arith, moved);
      frames = λ test. let moved = moved_frames by old new vpn told place place was is small test in omega (arith, moved);
      slots = let moved = moved_slots by old new vpn told place place was is small in omega (arith, moved);
      stay = same_stay old new (λ number in_range saving. same_page place was is number);
      copies = moved_copies by old new vpn told (same_bits vpn old.tables new.tables tables_stay) place place was is (ap (λ t. told_of_place (entry_at t vpn).dirty place) tables_stay);
    }

    -- what it keeps is another thing, of which no copy is out, with as many slots
    ends : (frame : FrameValue) (own : Option S) → told.page.place ≡ Resident frame (Cleaning own) → told.page'.place ≡ Resident frame (Unbacked own) → CountsAlike old new
    ends frame own was is =
        rekept_alike by old new vpn small told process_stays origin _ _ was is (rekept_resident frame (Cleaning own) (Unbacked own)) (same_bits vpn old.tables new.tables tables_stay) refl refl

    slot_is : (place : Place S) → told.page.place ≡ place → slot_in old vpn ≡ kept (slot_of place)
    slot_is place was = ap (option_and_then (λ (page : PageValue S). kept (slot_of page.place))) told.found ∙ ap (λ p. kept (slot_of p)) was

    goes : (frame : FrameValue) (own : Option S) (slot : S) → told.page.place ≡ Resident frame (Cleaning own) → told.page'.place ≡ Resident frame CopyOut → TakesSpare own slot spare spare'
        → HasCopied vpn (job_of old.process vpn frame slot) spare spare' old new
    goes frame own slot was is takes =
        let bits = same_bits vpn old.tables new.tables tables_stay in
        record {
          stays = rekept_stays by old new vpn small told process_stays origin _ _ was is (rekept_resident frame (Cleaning own) CopyOut);
          process = refl;
          vpn_is = refl;
          takes = subst (λ o. TakesSpare o slot spare spare') (sym (slot_is _ was)) takes;
          slots =
              let had : cond {A = ℕ} (is_some (slot_in old vpn)) 1 0 ≡ cond (is_some own) 1 0 = ap (λ o. cond {A = ℕ} (is_some o) 1 0) (slot_is _ was) in
              let moved : slots_within new + cond (is_some own) 1 0 ≡ slots_within old + 0 = moved_slots by old new vpn told _ _ was is small in
              omega (arith, had, moved);
          copies = λ test. let moved : copies_among new test + 0 ≡ copies_among old test + cond (test vpn) 1 0 = moved_outs by old new vpn told bits _ _ was is small test in omega (arith, moved);
          goes = record {
            before = copied_before by old new vpn told bits _ _ was is;
            out = copied_after by old new vpn told bits _ _ was is;
            stands = out_stands by old new vpn told bits frame is;
            others = moved_other_copies by old new vpn told bits _ _ was is;
          };
        }

    by_spare : (frame : FrameValue) (given : Option S) → After given (Resident frame (Cleaning None)) (copy_for_spare old.process vpn frame given)
    by_spare frame None was is had left = (ends frame None was is, (had, left))
    by_spare frame (Some slot) was is had left = goes frame None slot was is (had, left)

    by_own : (frame : FrameValue) (own given : Option S) → After given (Resident frame (Cleaning own)) (copy_unmarked old.process vpn frame own given)
    by_own frame None given was is had left = by_spare frame given was is had left
    by_own frame (Some slot) given was is had left = goes frame (Some slot) slot was is (refl, left ∙ sym had)

    by_marks : (frame : FrameValue) (own : Option S) (dirty marked : Bool) (given : Option S) → After given (Resident frame (Cleaning own)) (copy_cleaning old.process vpn frame own dirty marked given)
    by_marks frame own true marked given was is had left = (ends frame own was is, left ∙ sym had)
    by_marks frame own false true given was is had left = (same_place (Resident frame (Cleaning own)) was is, left ∙ sym had)
    by_marks frame own false false given was is had left = by_own frame own given was is had left

    by_slot : (frame : FrameValue) (slot : Keeping S) (dirty marked : Bool) (given : Option S) → After given (Resident frame slot) (copy_resident old.process vpn frame slot dirty marked given)
    by_slot frame NoSlot dirty marked given was is had left = (same_place _ was is, left ∙ sym had)
    by_slot frame (Saved copy) dirty marked given was is had left = (same_place _ was is, left ∙ sym had)
    by_slot frame (Unbacked own) dirty marked given was is had left = (same_place _ was is, left ∙ sym had)
    by_slot frame (Cleaning own) dirty marked given was is had left = by_marks frame own dirty marked given was is had left
    by_slot frame CopyOut dirty marked given was is had left = (same_place _ was is, left ∙ sym had)

    at_place : (place : Place S) (dirty marked : Bool) → After spare place (copied_clean old.process vpn dirty marked place spare)
    at_place Fresh dirty marked was is had left = (same_place Fresh was is, left)
    at_place (Resident frame slot) dirty marked was is had left = by_slot frame slot dirty marked spare was is had left
    at_place (Leaving frame slot mark) dirty marked was is had left = (same_place (Leaving frame slot mark) was is, left)
    at_place (Saving frame mark) dirty marked was is had left = (same_place (Saving frame mark) was is, left)
    at_place (Away copy) dirty marked was is had left = (same_place (Away copy) was is, left)
    at_place Purged dirty marked was is had left = (same_place Purged was is, left)

    copied_to : (dirty marked : Bool) (a : CleanCopy S) → (told.page'.place, (spare', a)) ≡ copied_clean old.process vpn dirty marked told.page.place spare → CopyComesTo vpn spare spare' old new a
    copied_to dirty marked a how =
        subst (CopyComesTo vpn spare spare' old new) (sym (ap (λ (t : CopiedPage S). t.1.1) how))
        (at_place told.page.place dirty marked refl (ap (λ (t : CopiedPage S). t.0) how) refl (ap (λ (t : CopiedPage S). t.1.0) how))

  pub copy_comes_to : (vpn : ℕ) (spare spare' : Option S) (a : CleanCopy S) (old new : PagedValue S) → vpn < 2 ^ 20 → OnlyPages old new → CopiesPage vpn spare spare' a old new → CopyComesTo vpn spare spare' old new a
  copy_comes_to vpn spare spare' a old new small stays copies = by_page (page_at old.pages vpn) copies
    where
      dirty : Bool
      dirty = dirty_of (entry_at old.tables vpn)

      marked : Bool
      marked = is_marked vpn old.caches

      by_page : (o : Option (PageValue S)) → CopiesAt old.process vpn dirty marked spare spare' a old.pages new.pages o → CopyComesTo vpn spare spare' old new a
      by_page None told =
          subst (CopyComesTo vpn spare spare' old new) (sym told.0)
          (same_tables old new (ap (λ (m : PagedValue S). m.process) stays) told.1.1 (ap (λ (m : PagedValue S). m.tables) stays), told.1.0)
      by_page (Some page) told =
          copied_to vpn small spare spare' old new stays (Copies old.process vpn dirty marked spare spare' a) told told.how.0 dirty marked a told.how.1

  -- ---- the copy comes back

  -- its slot is the page's again, and no copy of the page is out
  pub record HasCleaned (job : SavedValue S) (old new : PagedValue S) : Type 0 where
    pub process : job.process ≡ old.process
    pub small : job.vpn < 2 ^ 20
    pub stays : StaysInPlace job.vpn old new
    pub slots : slots_within new ≡ slots_within old + 1
    pub copies : (test : ℕ → Bool) → copies_among new test + cond (test job.vpn) 1 0 ≡ copies_among old test
    pub back : CopyComesBack job.vpn old new

  abbrev pub CleanComesTo : SavedValue S → PagedValue S → PagedValue S → Cleaned S → Type 0
  CleanComesTo job old new (end.WrongPage back) = new ≡ old
  CleanComesTo job old new end.Stored = HasCleaned job old new
  CleanComesTo job old new end.Device = HasCleaned job old new
  CleanComesTo job old new end.Clean = HasCleaned job old new

  module _ (job : SavedValue S) (old new : PagedValue S) (stays : OnlyPages old new) (process : job.process ≡ old.process) (small : job.vpn < 2 ^ 20) (by : PageValue S → PageValue S → Type 0) (told : ChangesBy by old.pages new.pages job.vpn) (origin : told.page'.origin ≡ told.page.origin) where
    back_bits : OtherBits job.vpn old.tables new.tables
    back_bits = same_bits job.vpn old.tables new.tables (ap (λ (m : PagedValue S). m.tables) stays)

    back_from : (from to : Place S) → told.page.place ≡ from → told.page'.place ≡ to → Rekept from to → is_copy_out (slot_of from) ≡ true → is_copy_out (slot_of to) ≡ false → is_kept (slot_of from) ≡ false → is_kept (slot_of to) ≡ true → HasCleaned job old new
    back_from from to was is rekept out back bare full = record {
      process = process;
      small = small;
      stays = rekept_stays by old new job.vpn small told (ap (λ (m : PagedValue S). m.process) stays) origin from to was is rekept;
      slots =
          let none : cond {A = ℕ} (is_kept (slot_of from)) 1 0 ≡ 0 = ap (λ b. cond {A = ℕ} b 1 0) bare in
          let one : cond {A = ℕ} (is_kept (slot_of to)) 1 0 ≡ 1 = ap (λ b. cond {A = ℕ} b 1 0) full in
          let moved = moved_slots by old new job.vpn told from to was is small in
          omega (arith, none, one, moved);
      copies = λ test.
          let before : cond {A = ℕ} (is_copy_out (slot_of from) && test job.vpn) 1 0 ≡ cond (test job.vpn) 1 0 = ap (λ b. cond {A = ℕ} (b && test job.vpn) 1 0) out in
          let after : cond {A = ℕ} (is_copy_out (slot_of to) && test job.vpn) 1 0 ≡ 0 = ap (λ b. cond {A = ℕ} (b && test job.vpn) 1 0) back in
          let moved = moved_outs by old new job.vpn told back_bits from to was is small test in
          omega (arith, before, after, moved);
      back = record {
        before = copied_before by old new job.vpn told back_bits from to was is ∙ out;
        back = copied_after by old new job.vpn told back_bits from to was is ∙ back;
        others = moved_other_copies by old new job.vpn told back_bits from to was is;
      };
    }

    back_out : (P : FrameValue → Bool → Type 0) (dirty : Bool) (now : Keeping S) → is_copy_out now ≡ false → is_kept now ≡ true → (place : Place S) → told.page.place ≡ place → IfCopyOut dirty place P → told.page'.place ≡ keeping now place → HasCleaned job old new
    back_out P dirty now back full Fresh was out is = absurd out
    back_out P dirty now back full (Resident frame CopyOut) was out is = back_from _ _ was is (rekept_resident frame CopyOut now) refl back refl full
    back_out P dirty now back full (Leaving frame CopyOut mark) was out is = back_from _ _ was is (rekept_leaving frame CopyOut now mark) refl back refl full
    back_out P dirty now back full (Resident frame NoSlot) was out is = absurd out
    back_out P dirty now back full (Resident frame (Saved copy)) was out is = absurd out
    back_out P dirty now back full (Resident frame (Unbacked own)) was out is = absurd out
    back_out P dirty now back full (Resident frame (Cleaning own)) was out is = absurd out
    back_out P dirty now back full (Leaving frame NoSlot mark) was out is = absurd out
    back_out P dirty now back full (Leaving frame (Saved copy) mark) was out is = absurd out
    back_out P dirty now back full (Leaving frame (Unbacked own) mark) was out is = absurd out
    back_out P dirty now back full (Leaving frame (Cleaning own) mark) was out is = absurd out
    back_out P dirty now back full (Saving frame mark) was out is = absurd out
    back_out P dirty now back full (Away copy) was out is = absurd out
    back_out P dirty now back full Purged was out is = absurd out

  pub clean_comes_to : (job : SavedValue S) (a : Cleaned S) (old new : PagedValue S) → OnlyPages old new → EndsCleaningIn job a old new → CleanComesTo job old new a
  clean_comes_to job (end.WrongPage back) old new stays ends = stays ∙ ap (λ p. record old { pages = p }) ends.1.0
  clean_comes_to job end.Stored old new stays ends =
      back_out job old new stays ends.0 ends.1.0 _ ends.1.1 ends.1.1.how.0 _ (dirty_of (entry_at old.tables job.vpn)) (Unbacked (Some job.slot)) refl refl ends.1.1.page.place refl ends.1.1.how.1.0 ends.1.1.how.1.1
  clean_comes_to job end.Device old new stays ends =
      back_out job old new stays ends.0 ends.1.0 _ ends.1.1 ends.1.1.how.0 _ (dirty_of (entry_at old.tables job.vpn)) (Unbacked (Some job.slot)) refl refl ends.1.1.page.place refl ends.1.1.how.1.0 ends.1.1.how.1.2
  clean_comes_to job end.Clean old new stays ends =
      back_out job old new stays ends.0 ends.1.0 _ ends.1.1 ends.1.1.how.0 _ (dirty_of (entry_at old.tables job.vpn)) (Saved (copy_of job)) refl refl ends.1.1.page.place refl ends.1.1.how.1.0 ends.1.1.how.1.2
