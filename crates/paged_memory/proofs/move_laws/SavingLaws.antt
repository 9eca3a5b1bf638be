-- A save that comes back.
use Rattle.std.specs.Prelude.{◌≡◌, ℕ, ◌^◌, ◌<◌, Bool, true, false, ◌||◌, Some, None, Result, Ok, Err, IfOk, IfErr, IsTrue, is_some, List, refl}
use Rattle.std.proofs.Common.{sym, ap, ◌∙◌, subst, true≢false}
use Rattle.frame_pool.specs.FrameValue.{FrameValue}
use Rattle.page_memory.specs.Pages.{Page}
use Rattle.page_memory.specs.Rights.{may}
use Rattle.page_memory.specs.declared.words.Access.TheVariants.{Store}
use Rattle.page_memory.specs.Entries.{place_of, value_at, with_value}
use Rattle.page_store.specs.JobValue.{SavedValue}
use Rattle.page_store.specs.Keeping.{Unbacked}
use Rattle.page_store.specs.declared.answer.SaveRefusal.{SaveRefusal}
use Rattle.page_store.specs.declared.answer.SaveRefusal.TheVariants.{WrongPage, Mismatch, Device}
use Rattle.page_store.specs.Moves.{IfSaving, RefusesSave, copy_of}
use Rattle.page_store.specs.PageValue.{PageValue, Place, Fresh, Resident, Leaving, Saving, Away, Purged, frame_of, content, BackedAt}
use Rattle.tlb_core.specs.declared.translation.Translation.{Translation}
use Rattle.paged_memory.specs.moves.Leaving.{IsSaving, IsOut, ChangesSaved, Frees, RefusesSaved}
use Rattle.paged_memory.specs.Calls.{ChangesBy}
use Rattle.paged_memory.specs.moves.Moving.{OnlyPages, SavedAway}
use Rattle.paged_memory.specs.Paged.{PagedValue, standing_of, flat_pages, Holds, IsUntouched}
use Rattle.paged_memory.proofs.move_laws.PagedLaws.{page_at-place, page_at-nowhere, changes_at_place, changed_by, memory_stays}
use Rattle.paged_memory.proofs.move_laws.MovesLaws.{IsBlank, unheld_page, holds_moved, with_same}
use Rattle.paged_memory.proofs.ConstancyLaws.{IsThere, unwritten_moved, unwritten_same, SameUnwritten}

always : (b : Bool) → (b || true) ≡ true
always true = refl
always false = refl

module _ {S : Type 0} where
  record WasSaving (place : Place S) (P : FrameValue → Bool → Type 0) : Type 1 where
    pub frame : FrameValue
    pub mark : Bool
    pub was : place ≡ Saving frame mark
    pub told : P frame mark

  was_saving : (place : Place S) (P : FrameValue → Bool → Type 0) → IfSaving place P → WasSaving place P
  was_saving Fresh P h = absurd h
  was_saving (Resident frame slot) P h = absurd h
  was_saving (Leaving frame slot mark) P h = absurd h
  was_saving (Saving frame mark) P h = record { frame = frame; mark = mark; was = refl; told = h }
  was_saving (Away slot) P h = absurd h
  was_saving Purged P h = absurd h

  -- no page is mapped where the save says
  pub out_nowhere : (process : ℕ) (job : SavedValue S) (pages : List (ℕ × PageValue S)) → place_of job.vpn pages ≡ None → IsOut process job pages → ⊥
  out_nowhere process job pages none out = subst IsSaving (page_at-nowhere pages job.vpn none) out.1.1

  module _ (process : ℕ) (job : SavedValue S) (pages : List (ℕ × PageValue S)) (place : ℕ) (page page' : PageValue S) (at : place_of job.vpn pages ≡ Some place) (value : value_at place pages ≡ Some page) (origin : page'.origin ≡ page.origin) where
    same_page : page'.place ≡ page.place → page' ≡ page
    same_page stays = ap (λ o. record { origin = o; place = page'.place }) origin ∙ ap (λ p. record { origin = page.origin; place = p }) stays

    -- what a page's answer to a save says of all pages
    pub freed_there : (result : Result FrameValue (SaveRefusal S)) → job.process ≡ process → job.vpn < 2 ^ 20
        → IfOk result (λ frame. IfSaving page.place (λ saved _. saved ≡ frame) × (page'.place ≡ Away (copy_of job)) × (frame.bytes ≡ job.copy) × IsTrue job.passed)
        → IfOk result (λ frame. ChangesSaved process job (Frees job frame) pages (with_value pages place page'))
    freed_there (Err refusal) its small freed = freed
    freed_there (Ok frame) its small freed = (
      its,
      (
        small,
        changed_by pages job.vpn place page page' at value (record {
          mark = saving.mark;
          was = saving.was ∙ ap (λ f. Saving f saving.mark) saving.told;
          is = ap (λ o. record { origin = o; place = page'.place }) origin ∙ ap (λ p. record { origin = page.origin; place = p }) freed.1;
          same = freed.2;
          passed = freed.3;
        }),
      ),
    )
      where
        saving : WasSaving page.place (λ saved _. saved ≡ frame)
        saving = was_saving page.place (λ saved _. saved ≡ frame) freed.0

    pub refused_there : (result : Result FrameValue (SaveRefusal S)) → job.process ≡ process → job.vpn < 2 ^ 20
        → IfErr result (RefusesSave job page.place page'.place)
        → IfErr result (RefusesSaved process job pages (with_value pages place page'))
    refused_there (Ok frame) its small refused = refused
    refused_there (Err (WrongPage back)) its small refused = (
      refused.0,
      (
        ap (with_value pages place) (same_page refused.1) ∙ with_same pages place page value,
        λ out. refused.2 (subst IsSaving (page_at-place pages job.vpn place page at value) out.1.1),
      ),
    )
    refused_there (Err Mismatch) its small refused = (its, (small, changed_by pages job.vpn place page page' at value (origin, refused)))
    refused_there (Err Device) its small refused = (its, (small, changed_by pages job.vpn place page page' at value (origin, refused)))

    pub memory_there : (held : S → List ℕ) → content held page' ≡ content held page → flat_pages held (with_value pages place page') ≡ flat_pages held pages
    memory_there held shows =
        memory_stays held pages (with_value pages place page') job.vpn page page' (page_at-place pages job.vpn place page at value)
        (ap (λ (o : Page). record { rights = o.rights; bytes = content held page' }) origin ∙ ap (λ b. record { rights = page.origin.rights; bytes = b }) shows)
        (changes_at_place pages job.vpn place page' at)

  module _ {held : S → List ℕ} {honest : Type 0} {pages pages' : List (ℕ × PageValue S)} {tables : List (List ℕ)} {caches : List (List Translation)} (holds : Holds held honest pages tables caches) (process : ℕ) (job : SavedValue S) where
    -- a page that was being saved becomes one with no entry, which its backing equals or which counts as changed
    moves : {by : PageValue S → PageValue S → Type 0} (number : ℕ) → number < 2 ^ 20 → (told : ChangesBy by pages pages' number) (frame : FrameValue) (mark : Bool) (place : Place S) → told.page.place ≡ Saving frame mark → told.page'.place ≡ place → told.page'.origin ≡ told.page.origin → IsBlank (standing_of place) → BackedAt held told.page'.origin.bytes false place → Holds held honest pages' tables caches
    moves number small told frame mark place was is origin blank backed =
        holds_moved number small holds pages' told.page told.page' told.found told.changes origin
        (subst (λ p. IsBlank (standing_of p)) (sym was) (λ r a d. refl))
        (subst (λ p. IsBlank (standing_of p)) (sym is) blank)
        (λ h. ap (λ p. is_some (frame_of p)) was)
        (λ is_honest. subst (BackedAt held told.page'.origin.bytes false) (sym is) backed)
        (λ fixed. absurd (subst (IsUntouched _ told.page.origin.bytes) was (holds.constant number told.page small told.found (ap (λ (o : Page). may Store o.rights) (sym origin) ∙ fixed))))
        (unheld_page number small holds told.page told.found (ap standing_of was))

    pub holds_saved : (result : Result FrameValue (SaveRefusal S)) → IfOk result (λ frame. ChangesSaved process job (Frees job frame) pages pages') → IfErr result (RefusesSaved process job pages pages') → Holds held honest pages' tables caches
    holds_saved (Ok frame) ok err =
        let told = ok.1.1 in
        moves job.vpn ok.1.0 told frame told.how.mark (Away (copy_of job)) told.how.was (ap (λ (p : PageValue S). p.place) told.how.is) (ap (λ (p : PageValue S). p.origin) told.how.is) (λ r a d. refl) (λ h. refl)
    holds_saved (Err (WrongPage back)) ok err = subst (λ p. Holds held honest p tables caches) (sym err.1.0) holds
    holds_saved (Err Mismatch) ok err =
        let told = err.1.1 in
        let out = was_saving told.page.place _ told.how.1 in
        moves job.vpn err.1.0 told out.frame out.mark (Leaving out.frame (Unbacked (Some job.slot)) out.mark) out.was out.told.1 told.how.0 (λ r a d. refl) (λ h. absurd (true≢false (sym (always out.mark) ∙ h)))
    holds_saved (Err Device) ok err =
        let told = err.1.1 in
        let out = was_saving told.page.place _ told.how.1 in
        moves job.vpn err.1.0 told out.frame out.mark (Leaving out.frame (Unbacked (Some job.slot)) out.mark) out.was out.told.2 told.how.0 (λ r a d. refl) (λ h. absurd (true≢false (sym (always out.mark) ∙ h)))

  module _ {held : S → List ℕ} {honest : Type 0} {pages : List (ℕ × PageValue S)} {tables : List (List ℕ)} {caches : List (List Translation)} (pages' : List (ℕ × PageValue S)) (holds : Holds held honest pages tables caches) (process : ℕ) (job : SavedValue S) where
    -- and what may not be written shows what it showed
    stays : {by : PageValue S → PageValue S → Type 0} (number : ℕ) → number < 2 ^ 20 → Holds held honest pages' tables caches → (told : ChangesBy by pages pages' number) (frame : FrameValue) (mark : Bool) (place : Place S) → told.page.place ≡ Saving frame mark → told.page'.place ≡ place → told.page'.origin ≡ told.page.origin → IsThere place → SameUnwritten (flat_pages held pages) (flat_pages held pages')
    stays number small holds' told frame mark place was is origin there =
        unwritten_moved held number small holds holds' told.page told.page' told.found told.changes origin (subst IsThere (sym was) tt) (subst IsThere (sym is) there)

    pub unwritten_saved : (result : Result FrameValue (SaveRefusal S)) → IfOk result (λ frame. ChangesSaved process job (Frees job frame) pages pages') → IfErr result (RefusesSaved process job pages pages') → SameUnwritten (flat_pages held pages) (flat_pages held pages')
    unwritten_saved (Ok frame) ok err =
        let told = ok.1.1 in
        stays job.vpn ok.1.0 (holds_saved holds process job (Ok frame) ok err) told frame told.how.mark (Away (copy_of job)) told.how.was (ap (λ (p : PageValue S). p.place) told.how.is) (ap (λ (p : PageValue S). p.origin) told.how.is) tt
    unwritten_saved (Err (WrongPage back)) ok err = unwritten_same held pages pages' (ap (flat_pages held) err.1.0)
    unwritten_saved (Err Mismatch) ok err =
        let told = err.1.1 in
        let out = was_saving told.page.place _ told.how.1 in
        stays job.vpn err.1.0 (holds_saved holds process job (Err Mismatch) ok err) told out.frame out.mark (Leaving out.frame (Unbacked (Some job.slot)) out.mark) out.was out.told.1 told.how.0 tt
    unwritten_saved (Err Device) ok err =
        let told = err.1.1 in
        let out = was_saving told.page.place _ told.how.1 in
        stays job.vpn err.1.0 (holds_saved holds process job (Err Device) ok err) told out.frame out.mark (Leaving out.frame (Unbacked (Some job.slot)) out.mark) out.was out.told.2 told.how.0 tt

-- what is told of its parts is the relation of the whole memory
pub saved_away : {S E : Type 0} (old new : PagedValue S) (job : SavedValue S) (result : Result FrameValue E) → OnlyPages old new
    → IfOk result (λ frame. ChangesSaved old.process job (Frees job frame) old.pages new.pages) → IfOk result (λ frame. SavedAway job frame old new)
saved_away old new job (Err refusal) stays freed = freed
saved_away old new job (Ok frame) stays freed = record { page = freed; stays = stays }
