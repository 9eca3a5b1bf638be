-- No call but the one that gives pages back gives one back: a page that counts as given back after it did before.
use Rattle.std.proofs.Common.{◌≡◌, ◌∙◌, ℕ, zero, suc, Bool, true, false, cond, List, [], ◌∷◌, length, nat_lt, Option, Some, None, option_map, slice_get, is_some, inl, inr, ap, refl, sym}
use Rattle.std.specs.Prelude.{if◌then◌else◌, option_and_then}
use Rattle.std.proofs.lemmas.Bool.Decides.{eqb_tells}
use Rattle.frame_pool.specs.FrameValue.{FrameValue}
use Rattle.page_memory.specs.Entries.{place_of, value_at, values_of}
use Rattle.page_memory.specs.Pages.{Page}
use Rattle.page_store.specs.Keeping.{Keeping, NoSlot, Saved, Unbacked, Cleaning, CopyOut, settled}
use Rattle.page_store.specs.JobValue.{JobValue, SavedValue}
use Rattle.page_store.specs.Lending.{with_bytes, rewritten}
use Rattle.page_store.specs.Moves.{Filled, IfAbsent, IfAway, IfResident}
use Rattle.page_store.specs.PageValue.{PageValue, Place, page_state_of}
use Rattle.page_store.specs.PageValue as place
use Rattle.page_store.specs.declared.state.PageState.{PageState}
use Rattle.page_store.specs.declared.state.PageState.TheVariants.{Purged}
use Rattle.paged_memory.specs.Calls.{ChangesBy}
use Rattle.paged_memory.specs.moves.Filling.{StaysAbsent}
use Rattle.paged_memory.specs.Fresh.{all_fresh, fresh, HasFresh}
use Rattle.paged_memory.specs.access.HartMemory.{KeepsPages}
use Rattle.paged_memory.specs.moves.Moving.{BeginsToLeave, ComesIn, ForgetsUse, GoesToBacking, GoesToBeSaved, LeavesAgain, MapsAgain, RefusesIn, SavedAway, dropped_to, emptied_to}
use Rattle.paged_memory.specs.access.Notices.{dropped, emptied, noticed}
use Rattle.paged_memory.specs.Paged.{PagedValue, page_at}
use Rattle.paged_memory.specs.Whole.{stage_in}
use Rattle.paged_memory.specs.declared.filling.PageInFault.{PageInFault}
use Rattle.paged_memory.specs.declared.filling.PageInFault.TheVariants as fault

some_is : {A : Type 0} (x y : A) → Some x ≡ Some y → x ≡ y
some_is x y e = cc

module _ {S : Type 0} where
  abbrev stage_of : PageValue S → PageState
  stage_of page = page_state_of page.place

  -- each page that counts as given back did
  abbrev pub GivesNone : PagedValue S → PagedValue S → Type 0
  GivesNone old new = (number : ℕ) → stage_in new number ≡ Some Purged → stage_in old number ≡ Some Purged

  pub same_none : (old new : PagedValue S) → new.pages ≡ old.pages → GivesNone old new
  same_none old new same number given = ap (λ pages. option_map stage_of (page_at pages number)) (sym same) ∙ given

  -- one page changes, and is none that was given back
  one_none : {by : PageValue S → PageValue S → Type 0} (old new : PagedValue S) (vpn : ℕ) (told : ChangesBy by old.pages new.pages vpn) → (stage_of told.page' ≡ Purged → ⊥) → GivesNone old new
  one_none old new vpn told live number given =
      elim (eqb_tells number vpn) [
        | inl same ↦
            absurd (live (some_is (stage_of told.page') Purged
            (ap (option_map stage_of) (sym (told.changes.pages number ∙ ap (λ b. cond b (Some told.page') (page_at old.pages number)) same.0)) ∙ given)))
        | inr other ↦ ap (option_map stage_of) (sym (told.changes.pages number ∙ ap (λ b. cond b (Some told.page') (page_at old.pages number)) other.0)) ∙ given
      ]

  -- where a page is then
  placed : (page : PageValue S) (at : Place S) → page.place ≡ at → (page_state_of at ≡ Purged → ⊥) → stage_of page ≡ Purged → ⊥
  placed page at is live given = live (ap page_state_of (sym is) ∙ given)

  leaves_live : (mark : Bool) (p : Place S) (page page' : PageValue S) → IfResident p (λ frame slot. page' ≡ record page { place = place.Leaving frame (settled slot) mark }) → stage_of page' ≡ Purged → ⊥
  leaves_live mark place.Fresh page page' how given = absurd how
  leaves_live mark (place.Resident frame slot) page page' how given = placed page' (place.Leaving frame (settled slot) mark) (ap (λ (p : PageValue S). p.place) how) (λ e. cc) given
  leaves_live mark (place.Leaving frame slot kept) page page' how given = absurd how
  leaves_live mark (place.Saving frame kept) page page' how given = absurd how
  leaves_live mark (place.Away copy) page page' how given = absurd how
  leaves_live mark place.Purged page page' how given = absurd how

  emptied_live : (slot : Option S) → page_state_of (emptied_to slot) ≡ Purged → ⊥
  emptied_live None e = cc
  emptied_live (Some slot) e = cc

  dropped_live : (slot : Keeping S) → page_state_of (dropped_to slot) ≡ Purged → ⊥
  dropped_live NoSlot e = cc
  dropped_live (Saved copy) e = cc
  dropped_live (Unbacked slot) e = emptied_live slot e
  dropped_live (Cleaning slot) e = emptied_live slot e
  dropped_live CopyOut e = cc

  filled_live : (frame : FrameValue) (old new : PageValue S) (now : Place S) → Filled frame old (record new { place = now }) → page_state_of now ≡ Purged → ⊥
  filled_live frame old new place.Fresh how e = absurd how
  filled_live frame old new (place.Resident filled slot) how e = cc
  filled_live frame old new (place.Leaving filled slot mark) how e = absurd how
  filled_live frame old new (place.Saving filled mark) how e = absurd how
  filled_live frame old new (place.Away copy) how e = absurd how
  filled_live frame old new place.Purged how e = absurd how

  away_live : (now : Place S) → IfAway now (λ _. Unit {0}) → page_state_of now ≡ Purged → ⊥
  away_live place.Fresh how e = absurd how
  away_live (place.Resident frame slot) how e = absurd how
  away_live (place.Leaving frame slot mark) how e = absurd how
  away_live (place.Saving frame mark) how e = absurd how
  away_live (place.Away copy) how e = cc
  away_live place.Purged how e = absurd how

  absent_live : (was now : Place S) → IfAbsent was (now ≡ place.Fresh) (λ _. IfAway now (λ _. Unit {0})) → page_state_of now ≡ Purged → ⊥
  absent_live place.Fresh now how e = let is = ap page_state_of (sym how) ∙ e in cc
  absent_live (place.Resident frame slot) now how e = absurd how
  absent_live (place.Leaving frame slot mark) now how e = absurd how
  absent_live (place.Saving frame mark) now how e = absurd how
  absent_live (place.Away copy) now how e = away_live now how e
  absent_live place.Purged now how e = absurd how

  pub emptied_none : (memory : PagedValue S) → GivesNone memory (emptied memory)
  emptied_none memory = same_none memory (emptied memory) refl

  pub noticed_none : (hart : ℕ) (memory : PagedValue S) → GivesNone memory (noticed hart memory)
  noticed_none hart memory = same_none memory (noticed hart memory) (by (nat_lt hart (length memory.caches)))
    where
      by : (b : Bool) → (if b then dropped hart memory else memory).pages ≡ memory.pages
      by true = refl
      by false = refl

  -- ---- the calls on a process's pages

  pub forgets_none : (vpn : ℕ) (old new : PagedValue S) → ForgetsUse vpn old new → GivesNone old new
  forgets_none vpn old new forgets = same_none old new forgets.pages

  pub leaves_none : (vpn : ℕ) (old new : PagedValue S) → BeginsToLeave vpn old new → GivesNone old new
  leaves_none vpn old new begins = one_none old new vpn begins.page (leaves_live _ begins.page.page.place begins.page.page begins.page.page' begins.page.how)

  pub backing_none : (vpn : ℕ) (frame : FrameValue) (old new : PagedValue S) → GoesToBacking vpn frame old new → GivesNone old new
  backing_none vpn frame old new goes =
      one_none old new vpn goes.page (placed goes.page.page' (dropped_to goes.page.how.slot) (ap (λ (p : PageValue S). p.place) goes.page.how.is) (dropped_live goes.page.how.slot))

  pub copied_none : (vpn : ℕ) (job : JobValue S) (old new : PagedValue S) → GoesToBeSaved vpn job old new → GivesNone old new
  copied_none vpn job old new goes =
      one_none old new vpn goes.page (placed goes.page.page' (place.Saving goes.page.how.frame goes.page.how.mark) (ap (λ (p : PageValue S). p.place) goes.page.how.is) (λ e. cc))

  pub saved_none : (job : SavedValue S) (frame : FrameValue) (old new : PagedValue S) → SavedAway job frame old new → GivesNone old new
  saved_none job frame old new saved =
      one_none old new job.vpn saved.page.1.1 (placed saved.page.1.1.page' (place.Away _) (ap (λ (p : PageValue S). p.place) saved.page.1.1.how.is) (λ e. cc))

  pub again_none : (shows : FrameValue → Type 0) (job : SavedValue S) (old new : PagedValue S) → LeavesAgain shows job old new → GivesNone old new
  again_none shows job old new leaves =
      one_none old new job.vpn leaves.page.1.1
      (placed leaves.page.1.1.page' (place.Leaving leaves.page.1.1.how.frame (Unbacked (Some job.slot)) leaves.page.1.1.how.mark) (ap (λ (p : PageValue S). p.place) leaves.page.1.1.how.is) (λ e. cc))

  pub mapped_none : (vpn : ℕ) (old new : PagedValue S) → MapsAgain vpn old new → GivesNone old new
  mapped_none vpn old new maps =
      one_none old new vpn maps.page.page
      (placed maps.page.page.page' (place.Resident maps.page.page.how.frame maps.page.page.how.slot) (ap (λ (p : PageValue S). p.place) maps.page.page.how.is) (λ e. cc))

  stays_live : (held : S → List ℕ) (honest : Type 0) (page page' : PageValue S) → StaysAbsent held honest page page' → stage_of page' ≡ Purged → ⊥
  stays_live held honest page page' stays = absent_live page.place page'.place stays.place

  pub comes_none : (held : S → List ℕ) (honest : Type 0) (frame : FrameValue) (vpn : ℕ) (old new : PagedValue S) → ComesIn held honest frame vpn old new → GivesNone old new
  comes_none held honest frame vpn old new comes = one_none old new vpn comes.page (filled_live frame comes.page.page comes.page.page' comes.page.page'.place comes.page.how.filled)

  pub refuses_none : (held : S → List ℕ) (honest : Type 0) (failures : S → ℕ) (frame : FrameValue) (vpn : ℕ) (back : FrameValue) (why : PageInFault) (old new : PagedValue S)
      → RefusesIn held honest failures frame vpn back why old new → GivesNone old new
  refuses_none held honest failures frame vpn back fault.NotAbsent old new how = same_none old new how.1.0
  refuses_none held honest failures frame vpn back fault.Device old new how = one_none old new vpn how.0 (stays_live held honest how.0.page how.0.page' how.0.how.stays)
  refuses_none held honest failures frame vpn back fault.Damaged old new how = one_none old new vpn how.0 (stays_live held honest how.0.page how.0.page' how.0.how.stays)
  refuses_none held honest failures frame vpn back fault.NoMemory old new how = one_none old new vpn how.1.0 (stays_live held honest how.1.0.page how.1.0.page' how.1.0.how.stays)

  -- ---- a hart's instructions

  bare_state : (p : Place S) → page_state_of (rewritten [] p) ≡ page_state_of p
  bare_state place.Fresh = refl
  bare_state (place.Resident frame slot) = refl
  bare_state (place.Leaving frame slot mark) = refl
  bare_state (place.Saving frame mark) = refl
  bare_state (place.Away slot) = refl
  bare_state place.Purged = refl

  bare_stage : (o : Option (PageValue S)) → option_map stage_of (option_map (λ p. with_bytes p []) o) ≡ option_map stage_of o
  bare_stage None = refl
  bare_stage (Some page) = ap Some (bare_state page.place)

  pub used_none : (old new : PagedValue S) → KeepsPages old.pages new.pages → GivesNone old new
  used_none old new kept number given = by_page (page_at old.pages number) refl
    where
      grown : (o : Option (PageValue S)) → page_at new.pages number ≡ o → page_at old.pages number ≡ None → option_map stage_of o ≡ Some Purged → ⊥
      grown None is none e = cc
      grown (Some page) is none e = let fresh = ap stage_of (kept.fresh number page none is) in let state = some_is (stage_of page) Purged e in cc

      by_page : (o : Option (PageValue S)) → page_at old.pages number ≡ o → option_map stage_of o ≡ Some Purged
      by_page None is = absurd (grown (page_at new.pages number) refl is given)
      by_page (Some page) is =
          sym (bare_stage (Some page)) ∙ ap (λ o. option_map stage_of (option_map (λ p. with_bytes p []) o)) (sym is)
          ∙ ap (option_map stage_of) (sym (kept.bare number (ap is_some is))) ∙ bare_stage (page_at new.pages number) ∙ given

  -- ---- a process that begins

  fresh_values : (pages : List (ℕ × Page)) (place : ℕ) (page : PageValue S) → slice_get (values_of (all_fresh pages)) place ≡ Some page → stage_of page ≡ Purged → ⊥
  fresh_values [] place page h e = cc
  fresh_values (p ∷ ps) zero page h e = let same : fresh p.1 ≡ page = cc in let at = ap stage_of same in cc
  fresh_values (p ∷ ps) (suc place) page h e = fresh_values ps place page h e

  fresh_at : (pages : List (ℕ × Page)) (number : ℕ) (page : PageValue S) → page_at (all_fresh pages) number ≡ Some page → stage_of page ≡ Purged → ⊥
  unfolding page_at
  fresh_at pages number page h e = by_place (place_of number (all_fresh pages)) h
    where
      by_place : (o : Option ℕ) → option_and_then (λ place. value_at place (all_fresh pages)) o ≡ Some page → ⊥
      by_place None h = cc
      by_place (Some place) h = fresh_values pages place page h e

  pub fresh_none : (pages : List (ℕ × Page)) (memory : PagedValue S) (number : ℕ) → HasFresh pages memory → stage_in memory number ≡ Some Purged → ⊥
  fresh_none pages memory number has given =
      by_page (page_at (all_fresh pages) number) refl (sym (ap (λ l. option_map stage_of (page_at l number)) has) ∙ given)
    where
      by_page : (o : Option (PageValue S)) → page_at (all_fresh pages) number ≡ o → option_map stage_of o ≡ Some Purged → ⊥
      by_page None is e = cc
      by_page (Some page) is e = fresh_at pages number page is (some_is (stage_of page) Purged e)
