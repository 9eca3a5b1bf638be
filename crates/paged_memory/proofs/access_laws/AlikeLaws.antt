-- Memories whose pages count alike, and what the counts tell of pages and pages of the counts.
use Rattle.std.proofs.Common.{◌≡◌, ℕ, ◌^◌, ◌<◌, Bool, true, false, ◌&&◌, List, [], Option, Some, None, option_map, option_and_then, is_some, length, nat_lt, slice_set, refl, sym, ap, ◌∙◌}
use Rattle.std.specs.Prelude.{if◌then◌else◌}
use Rattle.page_store.specs.Lending.{with_bytes, rewritten}
use Rattle.page_store.specs.PageValue.{PageValue, Place, Fresh, Resident, Leaving, Saving, Away, Purged, frame_of, slot_of, page_state_of, fresh_zero_page}
use Rattle.page_store.specs.Keeping.{is_copy_out}
use Rattle.paged_memory.specs.cleaning.Copies.{KeepsCopies, LeavesCopies, is_copied_in}
use Rattle.paged_memory.proofs.cleaning_laws.CopiesToldLaws.{leaves_tables}
use Rattle.paged_memory.specs.Counting.{page_passes, pages_where, is_resident_place, is_saving_place, frame_passes, is_kept, residents_of, savings_of, frames_of, slots_of}
use Rattle.paged_memory.proofs.CountingLaws.{same_where_pass}
use Rattle.paged_memory.specs.access.HartMemory.{KeepsPages}
use Rattle.paged_memory.specs.moves.Moving.{SamePage}
use Rattle.paged_memory.specs.access.Notices.{noticed, emptied}
use Rattle.paged_memory.specs.Paged.{PagedValue, page_at}
use Rattle.paged_memory.specs.moves.Stages.{is_saving_stage}
use Rattle.paged_memory.specs.access.Using.{cache_in}
use Rattle.paged_memory.specs.Whole.{stage_in, rights_in, frame_in, residents_among, savings_among, frames_among, slots_within}
use Rattle.tlb_core.specs.Cache.{undoomed}
use Rattle.tlb_core.specs.declared.translation.Translation.{Translation}

module _ {S : Type 0} where
  -- pages that are being saved are so still, each in its frame
  abbrev pub SavingsStay : PagedValue S → PagedValue S → Type 0
  SavingsStay old new = (number : ℕ) → number < 2 ^ 20 → is_saving_stage (stage_in old number) ≡ true → (stage_in new number ≡ stage_in old number) × (frame_in new number ≡ frame_in old number)

  -- as many pages are resident, are being saved, hold a frame and have a slot, and the same copies are out
  pub record CountsAlike (old new : PagedValue S) : Type 0 where
    pub process : new.process ≡ old.process
    pub residents : (test : ℕ → Bool) → residents_among new test ≡ residents_among old test
    pub savings : (test : ℕ → Bool) → savings_among new test ≡ savings_among old test
    pub frames : (test : ℕ → Bool) → frames_among new test ≡ frames_among old test
    pub slots : slots_within new ≡ slots_within old
    pub stay : SavingsStay old new
    pub copies : LeavesCopies old new

  -- ---- a page that is as it was

  module _ (old new : PagedValue S) (number : ℕ) (same : SamePage old new number) where
    pub same_stage : stage_in new number ≡ stage_in old number
    same_stage = ap (option_map (λ (page : PageValue S). page_state_of page.place)) same

    pub same_rights : rights_in new number ≡ rights_in old number
    same_rights = ap (option_map (λ (page : PageValue S). page.origin.rights)) same

    pub same_frame : frame_in new number ≡ frame_in old number
    same_frame = ap (option_and_then (λ (page : PageValue S). frame_of page.place)) same

  -- pages that are being saved stay where each of them is as it was
  pub same_stay : (old new : PagedValue S) → ((number : ℕ) → number < 2 ^ 20 → is_saving_stage (stage_in old number) ≡ true → SamePage old new number) → SavingsStay old new
  same_stay old new same number small is = (same_stage old new number (same number small is), same_frame old new number (same number small is))

  pub stay_on : (old between new : PagedValue S) → SavingsStay old between → SavingsStay between new → SavingsStay old new
  stay_on old between new first second number small is =
      let one = first number small is in
      let two = second number small (ap is_saving_stage one.0 ∙ is) in
      (two.0 ∙ one.0, two.1 ∙ one.1)

  -- ---- the same pages

  pub same_pages : (old new : PagedValue S) → new.process ≡ old.process → new.pages ≡ old.pages → LeavesCopies old new → CountsAlike old new
  same_pages old new process pages copies = record {
    process = process;
    residents = λ test. ap (λ p. residents_of p test) pages;
    savings = λ test. ap (λ p. savings_of p test) pages;
    frames = λ test. ap (λ p. frames_of p test) pages;
    slots = ap slots_of pages;
    stay = same_stay old new (λ number small is. ap (λ p. page_at p number) pages);
    copies = copies;
  }

  pub same_tables : (old new : PagedValue S) → new.process ≡ old.process → new.pages ≡ old.pages → new.tables ≡ old.tables → CountsAlike old new
  same_tables old new process pages tables = same_pages old new process pages (leaves_tables old new pages tables)

  -- nothing changed
  pub same_memory : (old new : PagedValue S) → new ≡ old → CountsAlike old new
  same_memory old new same = same_tables old new (ap (λ (m : PagedValue S). m.process) same) (ap (λ (m : PagedValue S). m.pages) same) (ap (λ (m : PagedValue S). m.tables) same)

  noticed_pages : (b : Bool) (memory : PagedValue S) (caches : List (List Translation)) → (if b then record memory { caches = caches } else memory).pages ≡ memory.pages
  noticed_pages true memory caches = refl
  noticed_pages false memory caches = refl

  noticed_process : (b : Bool) (memory : PagedValue S) (caches : List (List Translation)) → (if b then record memory { caches = caches } else memory).process ≡ memory.process
  noticed_process true memory caches = refl
  noticed_process false memory caches = refl

  noticed_tables : (b : Bool) (memory : PagedValue S) (caches : List (List Translation)) → (if b then record memory { caches = caches } else memory).tables ≡ memory.tables
  noticed_tables true memory caches = refl
  noticed_tables false memory caches = refl

  pub noticed_alike : (hart : ℕ) (memory : PagedValue S) → CountsAlike memory (noticed hart memory)
  noticed_alike hart memory =
      let caches : List (List Translation) = slice_set memory.caches hart (undoomed (cache_in memory hart)) in
      same_tables memory (noticed hart memory) (noticed_process (nat_lt hart (length memory.caches)) memory caches) (noticed_pages (nat_lt hart (length memory.caches)) memory caches) (noticed_tables (nat_lt hart (length memory.caches)) memory caches)

  pub emptied_alike : (memory : PagedValue S) → CountsAlike memory (emptied memory)
  emptied_alike memory = same_tables memory (emptied memory) refl refl refl

  -- ---- pages that are where they were but for the bytes in their frames, and pages of zeros that are new

  module _ (test : ℕ → PageValue S → Bool) (blind : (number : ℕ) (page : PageValue S) → test number (with_bytes page []) ≡ test number page) (bare : (number : ℕ) → test number fresh_zero_page ≡ false) (old new : List (ℕ × PageValue S)) (keeps : KeepsPages old new) where
    passes_alike : (number : ℕ) → page_passes (test number) (page_at new number) ≡ page_passes (test number) (page_at old number)
    passes_alike number = passes number (page_at old number) (page_at new number) refl refl
      where
        stripped : (number : ℕ) (o : Option (PageValue S)) → page_passes (test number) (option_map (λ page. with_bytes page []) o) ≡ page_passes (test number) o
        stripped number None = refl
        stripped number (Some page) = blind number page

        passes : (number : ℕ) (before after : Option (PageValue S)) → page_at old number ≡ before → page_at new number ≡ after → page_passes (test number) (page_at new number) ≡ page_passes (test number) (page_at old number)
        passes number (Some page) after was is =
            sym (stripped number (page_at new number))
            ∙ ap (page_passes (test number)) (keeps.bare number (ap is_some was))
            ∙ stripped number (page_at old number)
        passes number None None was is = ap (page_passes (test number)) is ∙ sym (ap (page_passes (test number)) was)
        passes number None (Some page) was is =
            ap (page_passes (test number)) is ∙ ap (test number) (keeps.fresh number page was is) ∙ bare number ∙ sym (ap (page_passes (test number)) was)

    kept_where : pages_where test new ≡ pages_where test old
    kept_where = same_where_pass test old new (λ number small. passes_alike number)

  same_resident : (place : Place S) → is_resident_place (rewritten [] place) ≡ is_resident_place place
  same_resident Fresh = refl
  same_resident (Resident frame slot) = refl
  same_resident (Leaving frame slot mark) = refl
  same_resident (Saving frame mark) = refl
  same_resident (Away slot) = refl
  same_resident Purged = refl

  same_saving : (place : Place S) → is_saving_place (rewritten [] place) ≡ is_saving_place place
  same_saving Fresh = refl
  same_saving (Resident frame slot) = refl
  same_saving (Leaving frame slot mark) = refl
  same_saving (Saving frame mark) = refl
  same_saving (Away slot) = refl
  same_saving Purged = refl

  same_number : (test : ℕ → Bool) (place : Place S) → frame_passes test (frame_of (rewritten [] place)) ≡ frame_passes test (frame_of place)
  same_number test Fresh = refl
  same_number test (Resident frame slot) = refl
  same_number test (Leaving frame slot mark) = refl
  same_number test (Saving frame mark) = refl
  same_number test (Away slot) = refl
  same_number test Purged = refl

  same_kept : (place : Place S) → is_kept (slot_of (rewritten [] place)) ≡ is_kept (slot_of place)
  same_kept Fresh = refl
  same_kept (Resident frame slot) = refl
  same_kept (Leaving frame slot mark) = refl
  same_kept (Saving frame mark) = refl
  same_kept (Away slot) = refl
  same_kept Purged = refl

  saved_still : (page page' : PageValue S) → is_saving_place page.place ≡ true → with_bytes page' [] ≡ with_bytes page [] → page' ≡ page
  saved_still page page' saving same = by_places page.place page'.place refl refl saving (ap (λ (p : PageValue S). p.place) same)
    where
      whole : page'.place ≡ page.place → page' ≡ page
      whole place = ap (λ o. record { origin = o; place = page'.place }) (ap (λ (p : PageValue S). p.origin) same) ∙ ap (λ p. record { origin = page.origin; place = p }) place

      by_places : (place place' : Place S) → page.place ≡ place → page'.place ≡ place' → is_saving_place place ≡ true → rewritten [] page'.place ≡ rewritten [] page.place → page' ≡ page
      by_places (Saving frame mark) (Saving frame' mark') at at' is placed = whole (at' ∙ sym (ap (rewritten []) at') ∙ placed ∙ ap (rewritten []) at ∙ sym at)
      by_places (Saving frame mark) Fresh at at' is placed = let e : ◌≡◌ {A = Place S} Fresh (Saving frame mark) = sym (ap (rewritten []) at') ∙ placed ∙ ap (rewritten []) at in cc
      by_places (Saving frame mark) (Resident f k) at at' is placed = let e : ◌≡◌ {A = Place S} (rewritten [] (Resident f k)) (Saving frame mark) = sym (ap (rewritten []) at') ∙ placed ∙ ap (rewritten []) at in cc
      by_places (Saving frame mark) (Leaving f k m) at at' is placed = let e : ◌≡◌ {A = Place S} (rewritten [] (Leaving f k m)) (Saving frame mark) = sym (ap (rewritten []) at') ∙ placed ∙ ap (rewritten []) at in cc
      by_places (Saving frame mark) (Away c) at at' is placed = let e : ◌≡◌ {A = Place S} (Away c) (Saving frame mark) = sym (ap (rewritten []) at') ∙ placed ∙ ap (rewritten []) at in cc
      by_places (Saving frame mark) Purged at at' is placed = let e : ◌≡◌ {A = Place S} Purged (Saving frame mark) = sym (ap (rewritten []) at') ∙ placed ∙ ap (rewritten []) at in cc
      by_places Fresh place' at at' is placed = cc
      by_places (Resident f k) place' at at' is placed = cc
      by_places (Leaving f k m) place' at at' is placed = cc
      by_places (Away c) place' at at' is placed = cc
      by_places Purged place' at at' is placed = cc

  kept_same : (old new : PagedValue S) → KeepsPages old.pages new.pages → (number : ℕ) → is_saving_stage (stage_in old number) ≡ true → SamePage old new number
  kept_same old new keeps number is = by_pages (page_at old.pages number) (page_at new.pages number) refl refl is
    where
      by_pages : (before after : Option (PageValue S)) → page_at old.pages number ≡ before → page_at new.pages number ≡ after → is_saving_stage (option_map (λ (page : PageValue S). page_state_of page.place) before) ≡ true → page_at new.pages number ≡ page_at old.pages number
      by_pages None after was now is = cc
      by_pages (Some page) None was now is =
          let e : None ≡ Some (with_bytes page []) = sym (ap (option_map (λ (p : PageValue S). with_bytes p [])) now) ∙ keeps.bare number (ap is_some was) ∙ ap (option_map (λ (p : PageValue S). with_bytes p [])) was in cc
      by_pages (Some page) (Some page') was now is =
          let e : Some (with_bytes page' []) ≡ Some (with_bytes page []) = sym (ap (option_map (λ (p : PageValue S). with_bytes p [])) now) ∙ keeps.bare number (ap is_some was) ∙ ap (option_map (λ (p : PageValue S). with_bytes p [])) was in
          let w : with_bytes page' [] ≡ with_bytes page [] = cc in
          now ∙ ap {B = Option (PageValue S)} (λ p. Some p) (saved_still page page' is w) ∙ sym was

  same_out : (place : Place S) → is_copy_out (slot_of (rewritten [] place)) ≡ is_copy_out (slot_of place)
  same_out Fresh = refl
  same_out (Resident frame slot) = refl
  same_out (Leaving frame slot mark) = refl
  same_out (Saving frame mark) = refl
  same_out (Away slot) = refl
  same_out Purged = refl

  kept_copied : (old new : PagedValue S) → KeepsPages old.pages new.pages → (number : ℕ) → is_copied_in new number ≡ is_copied_in old number
  kept_copied old new keeps number = passes_alike (λ number page. is_copy_out (slot_of page.place)) (λ number page. same_out page.place) (λ number. refl) old.pages new.pages keeps number

  pub kept_alike : (old new : PagedValue S) → new.process ≡ old.process → KeepsPages old.pages new.pages → KeepsCopies old new → CountsAlike old new
  kept_alike old new process keeps stand = record {
    process = process;
    residents = λ test. kept_where (λ number page. is_resident_place page.place && test number) (λ number page. ap (λ b. b && test number) (same_resident page.place)) (λ number. refl) old.pages new.pages keeps;
    savings = λ test. kept_where (λ number page. is_saving_place page.place && test number) (λ number page. ap (λ b. b && test number) (same_saving page.place)) (λ number. refl) old.pages new.pages keeps;
    frames = λ test. kept_where (λ number page. frame_passes test (frame_of page.place)) (λ number page. same_number test page.place) (λ number. refl) old.pages new.pages keeps;
    slots = kept_where (λ number page. is_kept (slot_of page.place)) (λ number page. same_kept page.place) (λ number. refl) old.pages new.pages keeps;
    stay = same_stay old new (λ number small is. kept_same old new keeps number is);
    copies = record { stand = stand; out = λ number small. kept_copied old new keeps number };
  }

  -- pages that are as they were are counted as before, where only they are asked for
  passes_same : (test : Bool) (o o' : Option (PageValue S)) → (test ≡ true → o' ≡ o) → page_passes (λ page. is_resident_place page.place && test) o' ≡ page_passes (λ page. is_resident_place page.place && test) o
  passes_same true o o' same = ap (page_passes (λ page. is_resident_place page.place && true)) (same refl)
  passes_same false o o' same = none o' ∙ sym (none o)
    where
      not : (b : Bool) → b && false ≡ false
      not true = refl
      not false = refl

      none : (o : Option (PageValue S)) → page_passes (λ page. is_resident_place page.place && false) o ≡ false
      none None = refl
      none (Some page) = not (is_resident_place page.place)

  pub same_residents : (old new : PagedValue S) (test : ℕ → Bool) → ((number : ℕ) → number < 2 ^ 20 → test number ≡ true → SamePage old new number) → residents_among new test ≡ residents_among old test
  same_residents old new test same =
      same_where_pass (λ number page. is_resident_place page.place && test number) old.pages new.pages
      (λ number small. passes_same (test number) (page_at old.pages number) (page_at new.pages number) (λ is. same number small is))
