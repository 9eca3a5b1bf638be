-- Laws of what a process's memory shows: what it goes on showing where pages come and go, and what it shows in the beginning.
use Rattle.std.specs.Prelude.{IfErr, IfNone, IfOk, OnOk, OnErr, OnSome}
use Rattle.std.proofs.Common.{◌≡◌, ℕ, ◌^◌, ◌<◌, ◌==◌, Bool, true, false, cond, List, [], Option, Some, None, Result, Ok, Err, option_map, is_some, inl, inr, ap, ◌∙◌, refl, sym, subst, true≢false}
use Rattle.std.specs.FinMap.{get}
use Rattle.std.proofs.lemmas.Bool.Decides.{eqb_tells}
use Rattle.frame_pool.specs.FrameValue.{FrameValue}
use Rattle.page_memory.specs.Memory.{Memory}
use Rattle.page_memory.specs.Pages.{Page}
use Rattle.page_memory.proofs.StandsForLaws.{get-map_by-place}
use Rattle.page_memory.specs.Words.{page_number, page_offset}
use Rattle.page_store.specs.CopyValue.{CopyValue}
use Rattle.page_store.specs.JobValue.{SavedValue}
use Rattle.page_store.specs.Lending.{with_bytes, rewritten}
use Rattle.page_store.specs.Moves.{CollectedPage, collected, Filled, IfAbsent, IfResident, IfSaving}
use Rattle.page_store.specs.PageValue.{PageValue, Place, Known}
use Rattle.page_store.specs.PageValue as place
use Rattle.page_store.specs.Reading.{some_from}
use Rattle.page_store.specs.declared.answer.Collected.{Collected}
use Rattle.page_store.specs.declared.answer.SaveRefusal.{SaveRefusal}
use Rattle.page_store.specs.declared.answer.SaveRefusal.TheVariants.{WrongPage, Mismatch, Device}
use Rattle.page_store.specs.declared.refusal.LeaveRefusal.{LeaveRefusal}
use Rattle.page_store.specs.Cleaning.{begun, CopiedPage, copied_clean, IfCopyOut}
use Rattle.page_store.specs.declared.answer.CleanCopy.{CleanCopy}
use Rattle.page_store.specs.declared.answer.Cleaned.{Cleaned}
use Rattle.page_store.specs.declared.answer.Cleaned.TheVariants as end
use Rattle.page_store.specs.declared.refusal.CleanRefusal.{CleanRefusal}
use Rattle.sv32_table.specs.EntryAt.{entry_at, dirty_of}
use Rattle.paged_memory.specs.cleaning.Cleaning.{BeginsCleaning, CopiesAt, CopiesPage, EndsCleaningIn}
use Rattle.page_store.specs.Keeping.{Keeping}
use Rattle.paged_memory.specs.Calls.{ChangesBy}
use Rattle.paged_memory.specs.moves.Filling.{RefusesPageIn}
use Rattle.paged_memory.specs.moves.GivingBack.{GivesOne}
use Rattle.paged_memory.specs.moves.Leaving.{CollectsAt}
use Rattle.paged_memory.specs.moves.Moving.{BeginsToLeave, ComesIn, ForgetsUse, GivesIn, IsNotSaved, LooksAt, MapsAgain, OnlyCaches, RefusesIn, SavedAway, ShowsIn}
use Rattle.paged_memory.specs.access.Notices.{emptied}
use Rattle.paged_memory.specs.Paged.{PagedValue, page_at, flat_page, flat_pages, memory_in, memory_of}
use Rattle.paged_memory.specs.Peeking.{bytes_of, ShowsBytes, LeavesPage, LeavesPlace}
use Rattle.paged_memory.specs.Showing.{rights_of, paged_rights, is_purged, is_purged_place, is_given_up, KeepsGivenUp, ShowsFlat}
use Rattle.paged_memory.specs.Soundness.{is_held, is_marked}
use Rattle.paged_memory.specs.access.Using.{KeepsIn}
use Rattle.paged_memory.specs.Whole.{rights_in, shown_in}
use Rattle.paged_memory.specs.declared.filling.PageInFault.{PageInFault}
use Rattle.paged_memory.specs.declared.filling.PageInFault.TheVariants as fault

module _ {S : Type 0} where
  -- ---- what memory has at a page number

  pub get-memory_of : (held : S → List ℕ) (value : PagedValue S) (number : ℕ) → get (memory_of held value).pages number ≡ shown_in held value number
  unfolding flat_pages page_at
  get-memory_of held value number = get-map_by-place (flat_page held) value.pages number

  same_rights : (held : S → List ℕ) (o : Option (PageValue S)) → rights_of (option_map (flat_page held) o) ≡ paged_rights o
  same_rights held None = refl
  same_rights held (Some page) = refl

  -- a memory shows the flat memory that it stands for
  pub shows_itself : (held : S → List ℕ) (value : PagedValue S) → ShowsFlat held value (memory_of held value)
  shows_itself held value = record {
    mapped = λ number small. ap rights_of (get-memory_of held value number) ∙ same_rights held (page_at value.pages number);
    shown = λ number small whole. get-memory_of held value number;
    reserved = refl;
  }

  -- other pages that stand for the same memory
  pub shows_on : (held : S → List ℕ) (old new : PagedValue S) (memory : Memory) → memory_of held new ≡ memory_of held old → KeepsGivenUp old new → ShowsFlat held old memory → ShowsFlat held new memory
  shows_on held old new memory same stays shows = record {
    mapped = λ number small.
        shows.mapped number small ∙ sym (same_rights held (page_at old.pages number)) ∙ ap rights_of (same_at number) ∙ same_rights held (page_at new.pages number);
    shown = λ number small whole. shows.shown number small (stays number whole) ∙ same_at number;
    reserved = shows.reserved ∙ ap (λ (m : Memory). m.reserved) (sym same);
  }
    where
      same_at : (number : ℕ) → shown_in held old number ≡ shown_in held new number
      same_at number = sym (get-memory_of held old number) ∙ ap (λ (m : Memory). get m.pages number) (sym same) ∙ get-memory_of held new number

  -- a page is given up
  pub shows_given_up : (held : S → List ℕ) (old new : PagedValue S) (memory : Memory) (given : Option FrameValue × Option S) → GivesOne given old.pages new.pages old.tables new.tables → new.reserved ≡ old.reserved → ShowsFlat held old memory
      → ShowsFlat held new memory
  shows_given_up held old new memory given gives reserved shows = record {
    mapped = λ number small. shows.mapped number small ∙ sym (same_mapped number);
    shown = λ number small whole.
        elim (eqb_tells number gives.number) [
          | inl same ↦
              let now : is_given_up new number ≡ true = ap is_purged (at_here number same.0 ∙ ap Some gives.pages.how.1) in
              absurd (true≢false (sym now ∙ whole))
          | inr other ↦ shows.shown number small (ap is_purged (sym (at_other number other.0)) ∙ whole) ∙ ap (option_map (flat_page held)) (sym (at_other number other.0))
        ];
    reserved = shows.reserved ∙ sym reserved;
  }
    where
      at_other : (number : ℕ) → (number == gives.number) ≡ false → page_at new.pages number ≡ page_at old.pages number
      at_other number other = gives.pages.changes.pages number ∙ ap (λ b. cond b (Some gives.pages.page') (page_at old.pages number)) other

      at_here : (number : ℕ) → (number == gives.number) ≡ true → page_at new.pages number ≡ Some gives.pages.page'
      at_here number here = gives.pages.changes.pages number ∙ ap (λ b. cond b (Some gives.pages.page') (page_at old.pages number)) here

      same_mapped : (number : ℕ) → rights_in new number ≡ rights_in old number
      same_mapped number =
          elim (eqb_tells number gives.number) [
            | inl same ↦ ap paged_rights (at_here number same.0 ∙ ap Some gives.pages.how.1) ∙ sym (ap paged_rights (ap (page_at old.pages) same.1 ∙ gives.pages.found))
            | inr other ↦ ap paged_rights (at_other number other.0)
          ]

  -- the same where the caches are emptied first
  pub shows_then_given_up : (held : S → List ℕ) (old mid new : PagedValue S) (memory : Memory) (given : Option FrameValue × Option S) → mid ≡ emptied old → GivesIn given mid new → new.reserved ≡ mid.reserved → ShowsFlat held old memory
      → ShowsFlat held new memory
  shows_then_given_up held old mid new memory given clear gives reserved shows =
      shows_given_up held old new memory given (subst (λ (m : PagedValue S). GivesIn given m new) clear gives) (reserved ∙ ap (λ (m : PagedValue S). m.reserved) clear) shows

  -- the same pages and reserved words stand for the same memory
  pub same_shown : (held : S → List ℕ) (old new : PagedValue S) → new.pages ≡ old.pages → new.reserved ≡ old.reserved → memory_of held new ≡ memory_of held old
  same_shown held old new same reserved = λ i. memory_in held (same i) (reserved i)

  -- bytes that a page shows are the flat memory's
  pub bytes_shown : (held : S → List ℕ) (honest : Type 0) (paged : PagedValue S) (memory : Memory) (address count : ℕ) (bytes : List (Option ℕ)) → page_number address < 2 ^ 20 → honest → ShowsFlat held paged memory
      → ShowsIn held honest paged address count bytes → bytes_of memory address count ≡ Some bytes
  bytes_shown held honest paged memory address count bytes small is_honest shows told = by_page (page_at paged.pages (page_number address)) refl told
    where
      known : (p : Place S) → Known honest p
      known place.Fresh = tt
      known (place.Resident frame slot) = tt
      known (place.Leaving frame slot mark) = tt
      known (place.Saving frame mark) = tt
      known (place.Away slot) = is_honest
      known place.Purged = tt

      whole : (p : Place S) → (p ≡ place.Purged → ⊥) → is_purged_place p ≡ false
      whole place.Fresh apart = refl
      whole (place.Resident frame slot) apart = refl
      whole (place.Leaving frame slot mark) apart = refl
      whole (place.Saving frame mark) apart = refl
      whole (place.Away slot) apart = refl
      whole place.Purged apart = absurd (apart refl)

      by_page : (o : Option (PageValue S)) → page_at paged.pages (page_number address) ≡ o → ShowsBytes held honest o (page_offset address) count bytes → bytes_of memory address count ≡ Some bytes
      by_page None at told = absurd told
      by_page (Some page) at told =
          ap (option_map (λ (p : Page). some_from p.bytes (page_offset address) count)) (shows.shown (page_number address) small (ap is_purged at ∙ whole page.place told.0) ∙ ap (option_map (flat_page held)) at)
          ∙ ap Some (sym (told.1 (known page.place)))

  -- ---- no call but the last one gives a page up

  same_purged : (old new : List (ℕ × PageValue S)) → new ≡ old → (number : ℕ) → is_purged (page_at new number) ≡ false → is_purged (page_at old number) ≡ false
  same_purged old new same number whole = ap (λ pages. is_purged (page_at pages number)) (sym same) ∙ whole

  one_purged : {by : PageValue S → PageValue S → Type 0} (old new : List (ℕ × PageValue S)) (vpn : ℕ) (told : ChangesBy by old new vpn) → (is_purged_place told.page'.place ≡ false → is_purged_place told.page.place ≡ false)
      → (number : ℕ) → is_purged (page_at new number) ≡ false → is_purged (page_at old number) ≡ false
  one_purged old new vpn told keeps number whole =
      elim (eqb_tells number vpn) [
        | inl same ↦
            ap (λ n. is_purged (page_at old n)) same.1 ∙ ap is_purged told.found
            ∙ keeps (ap is_purged (sym (told.changes.pages number ∙ ap (λ b. cond b (Some told.page') (page_at old number)) same.0)) ∙ whole)
        | inr other ↦ ap is_purged (sym (told.changes.pages number ∙ ap (λ b. cond b (Some told.page') (page_at old number)) other.0)) ∙ whole
      ]

  -- the same pages
  pub same_given_up : (old new : PagedValue S) → new.pages ≡ old.pages → KeepsGivenUp old new
  same_given_up old new same = same_purged old.pages new.pages same

  pub caches_given_up : (old new : PagedValue S) → OnlyCaches old new → KeepsGivenUp old new
  caches_given_up old new only = same_given_up old new (ap (λ (m : PagedValue S). m.pages) only)

  -- a page's use is read
  pub forgotten_given_up : (o : Option Bool) (vpn : ℕ) (old new : PagedValue S) → IfNone o (new ≡ old) → OnSome o (ForgetsUse vpn old new) → KeepsGivenUp old new
  forgotten_given_up None vpn old new same forgets = same_given_up old new (ap (λ (m : PagedValue S). m.pages) same)
  forgotten_given_up (Some bit) vpn old new same forgets = same_given_up old new forgets.pages

  pub forgotten_shown : (held : S → List ℕ) (o : Option Bool) (vpn : ℕ) (old new : PagedValue S) → IfNone o (new ≡ old) → OnSome o (ForgetsUse vpn old new) → memory_of held new ≡ memory_of held old
  forgotten_shown held None vpn old new same forgets = ap (memory_of held) same
  forgotten_shown held (Some bit) vpn old new same forgets = same_shown held old new forgets.pages forgets.reserved

  -- a page begins to leave
  resident_whole : (p : Place S) (P : FrameValue → Keeping S → Type 0) → IfResident p P → is_purged_place p ≡ false
  resident_whole place.Fresh P h = refl
  resident_whole (place.Resident frame slot) P h = refl
  resident_whole (place.Leaving frame slot mark) P h = refl
  resident_whole (place.Saving frame mark) P h = refl
  resident_whole (place.Away slot) P h = refl
  resident_whole place.Purged P h = absurd h

  pub left_given_up : (r : Result Unit LeaveRefusal) (old new : PagedValue S) (vpn : ℕ) → OnErr r (new ≡ old) → OnOk r (BeginsToLeave vpn old new) → KeepsGivenUp old new
  left_given_up (Err refusal) old new vpn same by = same_given_up old new (ap (λ (m : PagedValue S). m.pages) same)
  left_given_up (Ok done) old new vpn same by = one_purged old.pages new.pages vpn by.page (λ whole. resident_whole by.page.page.place _ by.page.how)

  -- a page that leaves is collected
  module _ (L : Type 0) where
    collected_whole : (process vpn : ℕ) (p : Place S) (cached : Bool) (spare : Option S) → is_purged_place (collected {L = L} process vpn cached p spare).0 ≡ false → is_purged_place p ≡ false
    collected_whole process vpn place.Fresh cached spare whole = refl
    collected_whole process vpn (place.Resident frame slot) cached spare whole = refl
    collected_whole process vpn (place.Leaving frame slot mark) cached spare whole = refl
    collected_whole process vpn (place.Saving frame mark) cached spare whole = refl
    collected_whole process vpn (place.Away slot) cached spare whole = refl
    collected_whole process vpn place.Purged cached spare whole = whole

    collected_at : (process vpn : ℕ) (cached : Bool) (spare spare' : Option S) (answer : Collected L S) (old new : List (ℕ × PageValue S)) (o : Option (PageValue S)) → CollectsAt process vpn cached spare spare' answer old new o
        → (number : ℕ) → is_purged (page_at new number) ≡ false → is_purged (page_at old number) ≡ false
    collected_at process vpn cached spare spare' answer old new None told = same_purged old new told.1.1
    collected_at process vpn cached spare spare' answer old new (Some page) told =
        one_purged old new vpn told (λ whole. collected_whole process vpn told.page.place cached spare (ap (λ (after : CollectedPage L S). is_purged_place after.0) (sym told.how.1) ∙ whole))

    pub collected_given_up : (vpn : ℕ) (spare spare' : Option S) (answer : Collected L S) (old new : PagedValue S) → LooksAt vpn spare spare' answer old new → KeepsGivenUp old new
    collected_given_up vpn spare spare' answer old new told = collected_at old.process vpn (is_held vpn old.caches) spare spare' answer old.pages new.pages (page_at old.pages vpn) told

  -- a page is cleaned
  begun_whole : (ended dirty : Bool) (p p' : Place S) → begun ended dirty p ≡ Ok p' → is_purged_place p ≡ false
  begun_whole ended dirty place.Fresh p' is = refl
  begun_whole ended dirty (place.Resident frame slot) p' is = refl
  begun_whole ended dirty (place.Leaving frame slot mark) p' is = refl
  begun_whole ended dirty (place.Saving frame mark) p' is = refl
  begun_whole ended dirty (place.Away slot) p' is = refl
  begun_whole ended dirty place.Purged p' is = cc

  pub begun_given_up : (ended : Bool) (r : Result Unit CleanRefusal) (old new : PagedValue S) (vpn : ℕ) → OnErr r (new ≡ old) → OnOk r (BeginsCleaning ended vpn old new) → KeepsGivenUp old new
  begun_given_up ended (Err refusal) old new vpn same by = same_given_up old new (ap (λ (m : PagedValue S). m.pages) same)
  begun_given_up ended (Ok done) old new vpn same by = one_purged old.pages new.pages vpn by.page (λ whole. begun_whole ended _ by.page.page.place by.page.page'.place by.page.how.place)

  copied_whole : (process vpn : ℕ) (dirty marked : Bool) (p : Place S) (spare : Option S) → is_purged_place (copied_clean process vpn dirty marked p spare).0 ≡ false → is_purged_place p ≡ false
  copied_whole process vpn dirty marked place.Fresh spare whole = refl
  copied_whole process vpn dirty marked (place.Resident frame slot) spare whole = refl
  copied_whole process vpn dirty marked (place.Leaving frame slot mark) spare whole = refl
  copied_whole process vpn dirty marked (place.Saving frame mark) spare whole = refl
  copied_whole process vpn dirty marked (place.Away slot) spare whole = refl
  copied_whole process vpn dirty marked place.Purged spare whole = whole

  copied_at : (process vpn : ℕ) (dirty marked : Bool) (spare spare' : Option S) (answer : CleanCopy S) (old new : List (ℕ × PageValue S)) (o : Option (PageValue S)) → CopiesAt process vpn dirty marked spare spare' answer old new o
      → (number : ℕ) → is_purged (page_at new number) ≡ false → is_purged (page_at old number) ≡ false
  copied_at process vpn dirty marked spare spare' answer old new None told = same_purged old new told.1.1
  copied_at process vpn dirty marked spare spare' answer old new (Some page) told =
      one_purged old new vpn told (λ whole. copied_whole process vpn dirty marked told.page.place spare (ap (λ (after : CopiedPage S). is_purged_place after.0) (sym told.how.1) ∙ whole))

  pub copied_given_up : (vpn : ℕ) (spare spare' : Option S) (answer : CleanCopy S) (old new : PagedValue S) → CopiesPage vpn spare spare' answer old new → KeepsGivenUp old new
  copied_given_up vpn spare spare' answer old new told =
      copied_at old.process vpn (dirty_of (entry_at old.tables vpn)) (is_marked vpn old.caches) spare spare' answer old.pages new.pages (page_at old.pages vpn) told

  out_whole : (dirty : Bool) (p : Place S) (P : FrameValue → Bool → Type 0) → IfCopyOut dirty p P → is_purged_place p ≡ false
  out_whole dirty place.Fresh P h = refl
  out_whole dirty (place.Resident frame slot) P h = refl
  out_whole dirty (place.Leaving frame slot mark) P h = refl
  out_whole dirty (place.Saving frame mark) P h = refl
  out_whole dirty (place.Away slot) P h = refl
  out_whole dirty place.Purged P h = absurd h

  pub ended_given_up : (job : SavedValue S) (answer : Cleaned S) (old new : PagedValue S) → EndsCleaningIn job answer old new → KeepsGivenUp old new
  ended_given_up job (end.WrongPage back) old new told = same_given_up old new told.1.0
  ended_given_up job end.Stored old new told = one_purged old.pages new.pages job.vpn told.1.1 (λ whole. out_whole _ told.1.1.page.place _ told.1.1.how.1.0)
  ended_given_up job end.Device old new told = one_purged old.pages new.pages job.vpn told.1.1 (λ whole. out_whole _ told.1.1.page.place _ told.1.1.how.1.0)
  ended_given_up job end.Clean old new told = one_purged old.pages new.pages job.vpn told.1.1 (λ whole. out_whole _ told.1.1.page.place _ told.1.1.how.1.0)

  -- its save comes back
  saving_whole : (p : Place S) (P : FrameValue → Bool → Type 0) → IfSaving p P → is_purged_place p ≡ false
  saving_whole place.Fresh P h = refl
  saving_whole (place.Resident frame slot) P h = refl
  saving_whole (place.Leaving frame slot mark) P h = refl
  saving_whole (place.Saving frame mark) P h = refl
  saving_whole (place.Away slot) P h = refl
  saving_whole place.Purged P h = absurd h

  pub saved_given_up : (job : SavedValue S) (result : Result FrameValue (SaveRefusal S)) (old new : PagedValue S) → IfOk result (λ frame. SavedAway job frame old new)
      → IfErr result (λ refusal. IsNotSaved job refusal old new) → KeepsGivenUp old new
  saved_given_up job (Ok frame) old new ok err = one_purged old.pages new.pages job.vpn ok.page.1.1 (λ whole. ap is_purged_place ok.page.1.1.how.was)
  saved_given_up job (Err (WrongPage back)) old new ok err = same_given_up old new err.1.0
  saved_given_up job (Err Mismatch) old new ok err = one_purged old.pages new.pages job.vpn err.1.1 (λ whole. saving_whole err.1.1.page.place _ err.1.1.how.1)
  saved_given_up job (Err Device) old new ok err = one_purged old.pages new.pages job.vpn err.1.1 (λ whole. saving_whole err.1.1.page.place _ err.1.1.how.1)

  -- it is mapped again
  pub returned_given_up : {E : Type 0} (result : Result Unit E) (old new : PagedValue S) (vpn : ℕ) → OnOk result (MapsAgain vpn old new) → OnErr result (new ≡ old) → KeepsGivenUp old new
  returned_given_up (Ok done) old new vpn ok err = one_purged old.pages new.pages vpn ok.page.page (λ whole. ap is_purged_place ok.page.page.how.was)
  returned_given_up (Err refusal) old new vpn ok err = same_given_up old new (ap (λ (m : PagedValue S). m.pages) err)

  -- a page is brought in, or looked at
  absent_whole : (p : Place S) (fresh : Type 0) (away : CopyValue S → Type 0) → IfAbsent p fresh away → is_purged_place p ≡ false
  absent_whole place.Fresh fresh away h = refl
  absent_whole (place.Resident frame slot) fresh away h = refl
  absent_whole (place.Leaving frame slot mark) fresh away h = refl
  absent_whole (place.Saving frame mark) fresh away h = refl
  absent_whole (place.Away slot) fresh away h = refl
  absent_whole place.Purged fresh away h = absurd h

  module _ (held : S → List ℕ) (honest : Type 0) where
    pub paged_in_given_up : {U : Type 0} (failures : S → ℕ) (frame : FrameValue) (vpn : ℕ) (old new : PagedValue S) (result : Result U (FrameValue × PageInFault)) → OnOk result (ComesIn held honest frame vpn old new)
        → IfErr result (λ back. RefusesIn held honest failures frame vpn back.0 back.1 old new) → KeepsGivenUp old new
    paged_in_given_up failures frame vpn old new (Ok u) ok refused = one_purged old.pages new.pages vpn ok.page (λ _. filled_whole ok.page.page'.place ok.page.page.place ok.page.how.filled)
      where
        filled_whole : (now was : Place S) → Filled frame (record ok.page.page { place = was }) (record ok.page.page' { place = now }) → is_purged_place was ≡ false
        filled_whole place.Fresh was how = absurd how
        filled_whole (place.Resident filled slot) was how = absent_whole was _ _ how.1
        filled_whole (place.Leaving filled slot mark) was how = absurd how
        filled_whole (place.Saving filled mark) was how = absurd how
        filled_whole (place.Away slot) was how = absurd how
        filled_whole place.Purged was how = absurd how
    paged_in_given_up failures frame vpn old new (Err back) ok refused = by_fault back.1 refused
      where
        by_fault : (why : PageInFault) → RefusesPageIn held honest failures frame old.pages new.pages old.tables vpn back.0 why → KeepsGivenUp old new
        by_fault fault.NotAbsent how = same_given_up old new how.1.0
        by_fault fault.Device how = one_purged old.pages new.pages vpn how.0 (λ _. absent_whole how.0.page.place _ _ how.0.how.stays.place)
        by_fault fault.Damaged how = one_purged old.pages new.pages vpn how.0 (λ _. absent_whole how.0.page.place _ _ how.0.how.stays.place)
        by_fault fault.NoMemory how = one_purged old.pages new.pages vpn how.1.0 (λ _. absent_whole how.1.0.page.place _ _ how.1.0.how.stays.place)

    peeked_at : (old new : List (ℕ × PageValue S)) (vpn : ℕ) (was : Option (PageValue S)) → LeavesPage held honest old new vpn was → (number : ℕ) → is_purged (page_at new number) ≡ false → is_purged (page_at old number) ≡ false
    peeked_at old new vpn None left = same_purged old new left
    peeked_at old new vpn (Some page) left = by_place page.place left
      where
        by_place : (p : Place S) → LeavesPlace held honest old new vpn p → (number : ℕ) → is_purged (page_at new number) ≡ false → is_purged (page_at old number) ≡ false
        by_place place.Fresh left = same_purged old new left
        by_place (place.Resident frame slot) left = same_purged old new left
        by_place (place.Leaving frame slot mark) left = same_purged old new left
        by_place (place.Saving frame mark) left = same_purged old new left
        by_place (place.Away slot) left = one_purged old new vpn left (λ _. absent_whole left.page.place _ _ left.how.place)
        by_place place.Purged left = same_purged old new left

    pub peeked_given_up : (vpn : ℕ) (old new : PagedValue S) → LeavesPage held honest old.pages new.pages vpn (page_at old.pages vpn) → KeepsGivenUp old new
    peeked_given_up vpn old new left = peeked_at old.pages new.pages vpn (page_at old.pages vpn) left

  -- harts use them
  purged_bare : (p : Place S) → is_purged_place (rewritten [] p) ≡ is_purged_place p
  purged_bare place.Fresh = refl
  purged_bare (place.Resident frame slot) = refl
  purged_bare (place.Leaving frame slot mark) = refl
  purged_bare (place.Saving frame mark) = refl
  purged_bare (place.Away slot) = refl
  purged_bare place.Purged = refl

  purged_shape : (o : Option (PageValue S)) → is_purged (option_map (λ p. with_bytes p []) o) ≡ is_purged o
  purged_shape None = refl
  purged_shape (Some page) = purged_bare page.place

  pub used_given_up : (old new : PagedValue S) → KeepsIn old new → KeepsGivenUp old new
  used_given_up old new kept number whole = by_page (page_at old.pages number) refl
    where
      by_page : (o : Option (PageValue S)) → page_at old.pages number ≡ o → is_purged o ≡ false
      by_page None is = refl
      by_page (Some page) is =
          sym (purged_shape (Some page)) ∙ ap (λ o. is_purged (option_map (λ p. with_bytes p []) o)) (sym is)
          ∙ ap is_purged (sym (kept.bare number (ap is_some is))) ∙ purged_shape (page_at new.pages number) ∙ whole
