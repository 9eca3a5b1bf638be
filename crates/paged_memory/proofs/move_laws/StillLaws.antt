-- What a page that does not come in leaves: it is where it was, its frame comes back, and one that is absent is not refused for that.
use Rattle.std.proofs.Common.{◌≡◌, ℕ, true, List, Option, Some, None, option_map, refl, sym, ap, ◌∙◌}
use Rattle.frame_pool.specs.FrameValue.{FrameValue}
use Rattle.page_store.specs.Moves.{IfAbsent, IfAway}
use Rattle.page_store.specs.PageValue.{PageValue, Place, Fresh, Resident, Leaving, Saving, Away, Purged, page_state_of}
use Rattle.paged_memory.specs.Calls.{ChangesBy}
use Rattle.paged_memory.specs.moves.Filling.{IsAbsent, StaysAbsent}
use Rattle.paged_memory.proofs.move_laws.MoveLaws.{moved_now}
use Rattle.paged_memory.specs.moves.Moving.{RefusesIn}
use Rattle.paged_memory.specs.Paged.{PagedValue, page_at}
use Rattle.paged_memory.specs.moves.Stages.{is_absent_stage}
use Rattle.paged_memory.specs.Whole.{stage_in}
use Rattle.paged_memory.specs.declared.filling.PageInFault.{PageInFault}
use Rattle.paged_memory.specs.declared.filling.PageInFault.TheVariants.{NotAbsent, Device, Damaged, NoMemory}

module _ {S : Type 0} where
  pub still_where : (old new : Place S) → IfAbsent old (new ≡ Fresh) (λ _. IfAway new (λ _. Unit {0})) → page_state_of new ≡ page_state_of old
  still_where Fresh new how = ap page_state_of how
  still_where (Resident f s) new how = absurd how
  still_where (Leaving f s m) new how = absurd how
  still_where (Saving f mark) new how = absurd how
  still_where (Away s) Fresh how = absurd how
  still_where (Away s) (Resident f k) how = absurd how
  still_where (Away s) (Leaving f k m) how = absurd how
  still_where (Away s) (Saving f mark) how = absurd how
  still_where (Away s) (Away t) how = refl
  still_where (Away s) Purged how = absurd how
  still_where Purged new how = absurd how

  absent_page : (o : Option (PageValue S)) → is_absent_stage (option_map (λ (page : PageValue S). page_state_of page.place) o) ≡ true → IsAbsent o
  absent_page None h = cc
  absent_page (Some page) h = by_place page.place h
    where
      by_place : (place : Place S) → is_absent_stage (Some (page_state_of place)) ≡ true → IfAbsent place (Unit {0}) (λ _. Unit {0})
      by_place Fresh h = tt
      by_place (Resident frame slot) h = cc
      by_place (Leaving frame slot mark) h = cc
      by_place (Saving frame mark) h = cc
      by_place (Away slot) h = tt
      by_place Purged h = cc

  module _ (held : S → List ℕ) (honest : Type 0) (failures : S → ℕ) (frame : FrameValue) (vpn : ℕ) (back : FrameValue) (old new : PagedValue S) where
    still_there : ChangesBy (StaysAbsent held honest) old.pages new.pages vpn → stage_in new vpn ≡ stage_in old vpn
    still_there stays =
        ap (option_map (λ (page : PageValue S). page_state_of page.place)) (moved_now (StaysAbsent held honest) old new vpn stays)
        ∙ ap {B = Option _} (λ s. Some s) (still_where stays.page.place stays.page'.place stays.how.place)
        ∙ sym (ap (option_map (λ (page : PageValue S). page_state_of page.place)) stays.found)

    -- it is where it was
    pub refused_still : (fault : PageInFault) → RefusesIn held honest failures frame vpn back fault old new → stage_in new vpn ≡ stage_in old vpn
    refused_still NotAbsent how = ap (λ pages. option_map (λ (page : PageValue S). page_state_of page.place) (page_at pages vpn)) how.1.0
    refused_still Device how = still_there (record { page = how.0.page; page' = how.0.page'; found = how.0.found; changes = how.0.changes; how = how.0.how.stays })
    refused_still Damaged how = still_there (record { page = how.0.page; page' = how.0.page'; found = how.0.found; changes = how.0.changes; how = how.0.how.stays })
    refused_still NoMemory how = still_there (record { page = how.1.0.page; page' = how.1.0.page'; found = how.1.0.found; changes = how.1.0.changes; how = how.1.0.how.stays })

    -- its frame comes back
    pub refused_number : (fault : PageInFault) → RefusesIn held honest failures frame vpn back fault old new → back.number ≡ frame.number
    refused_number NotAbsent how = ap (λ (f : FrameValue). f.number) how.1.1
    refused_number Device how = how.1
    refused_number Damaged how = how.1
    refused_number NoMemory how = how.1.1

    -- one that is absent is not refused for being not so
    pub refused_absent : (fault : PageInFault) → RefusesIn held honest failures frame vpn back fault old new → is_absent_stage (stage_in old vpn) ≡ true → fault ≡ NotAbsent → ⊥
    refused_absent NotAbsent how absent same = how.0 (absent_page (page_at old.pages vpn) absent)
    refused_absent Device how absent same = cc
    refused_absent Damaged how absent same = cc
    refused_absent NoMemory how absent same = cc
