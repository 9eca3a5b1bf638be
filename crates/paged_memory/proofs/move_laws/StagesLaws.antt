-- What one test of where a page is tells of another, and of the page.
use Rattle.std.proofs.Common.{◌≡◌, ℕ, true, false, Option, Some, None, option_map, is_some, refl, ap, ◌∙◌}
use Rattle.page_store.specs.declared.state.PageState.{PageState}
use Rattle.page_store.specs.declared.state.PageState.TheVariants as stage
use Rattle.page_store.specs.PageValue.{PageValue, Place, Fresh, Resident, Leaving, Saving, Away, Purged, page_state_of}
use Rattle.sv32_table.specs.Entry.{Entry}
use Rattle.paged_memory.specs.Calls.{accessed_at}
use Rattle.paged_memory.specs.Paged.{PagedValue, page_at, seen_of, standing_of}
use Rattle.paged_memory.specs.moves.Stages.{is_absent_stage, is_resident_stage, is_leaving_stage, is_saving_stage, has_frame_stage}
use Rattle.paged_memory.specs.Whole.{stage_in, entry_in, accessed_in}

-- a page is at one place only
pub resident_not_absent : (page : Option PageState) → is_resident_stage page ≡ true → is_absent_stage page ≡ false
resident_not_absent None h = refl
resident_not_absent (Some stage.Fresh) h = cc
resident_not_absent (Some stage.Resident) h = refl
resident_not_absent (Some stage.Leaving) h = refl
resident_not_absent (Some stage.Saving) h = refl
resident_not_absent (Some stage.Away) h = cc
resident_not_absent (Some stage.Purged) h = refl

pub leaving_not_resident : (page : Option PageState) → is_leaving_stage page ≡ true → is_resident_stage page ≡ false
leaving_not_resident None h = refl
leaving_not_resident (Some stage.Fresh) h = refl
leaving_not_resident (Some stage.Resident) h = cc
leaving_not_resident (Some stage.Leaving) h = refl
leaving_not_resident (Some stage.Saving) h = refl
leaving_not_resident (Some stage.Away) h = refl
leaving_not_resident (Some stage.Purged) h = refl

pub leaving_not_saving : (page : Option PageState) → is_leaving_stage page ≡ true → is_saving_stage page ≡ false
leaving_not_saving None h = refl
leaving_not_saving (Some stage.Fresh) h = refl
leaving_not_saving (Some stage.Resident) h = refl
leaving_not_saving (Some stage.Leaving) h = refl
leaving_not_saving (Some stage.Saving) h = cc
leaving_not_saving (Some stage.Away) h = refl
leaving_not_saving (Some stage.Purged) h = refl

pub saving_not_resident : (page : Option PageState) → is_saving_stage page ≡ true → is_resident_stage page ≡ false
saving_not_resident None h = refl
saving_not_resident (Some stage.Fresh) h = refl
saving_not_resident (Some stage.Resident) h = cc
saving_not_resident (Some stage.Leaving) h = refl
saving_not_resident (Some stage.Saving) h = refl
saving_not_resident (Some stage.Away) h = refl
saving_not_resident (Some stage.Purged) h = refl

-- one that is leaving or is being saved holds a frame
pub leaving_framed : (page : Option PageState) → is_leaving_stage page ≡ true → has_frame_stage page ≡ true
leaving_framed None h = cc
leaving_framed (Some stage.Fresh) h = cc
leaving_framed (Some stage.Resident) h = refl
leaving_framed (Some stage.Leaving) h = refl
leaving_framed (Some stage.Saving) h = refl
leaving_framed (Some stage.Away) h = cc
leaving_framed (Some stage.Purged) h = cc

pub saving_framed : (page : Option PageState) → is_saving_stage page ≡ true → has_frame_stage page ≡ true
saving_framed None h = cc
saving_framed (Some stage.Fresh) h = cc
saving_framed (Some stage.Resident) h = refl
saving_framed (Some stage.Leaving) h = refl
saving_framed (Some stage.Saving) h = refl
saving_framed (Some stage.Away) h = cc
saving_framed (Some stage.Purged) h = cc

module _ {S : Type 0} where
  place_accessed : (page : PageValue S) (place : Place S) (e : Entry) → page.place ≡ place → is_resident_stage (Some (page_state_of place)) ≡ true → is_some (accessed_at (Some (seen_of page)) e) ≡ true
  place_accessed page Fresh e at h = cc
  place_accessed page (Resident frame slot) e at h = ap (λ p. is_some (accessed_at (Some (record { rights = page.origin.rights; standing = standing_of p })) e)) at
  place_accessed page (Leaving frame slot mark) e at h = cc
  place_accessed page (Saving frame mark) e at h = cc
  place_accessed page (Away slot) e at h = cc
  place_accessed page Purged e at h = cc

  -- one that is resident has an accessed bit
  pub resident_accessed : (memory : PagedValue S) (vpn : ℕ) → is_resident_stage (stage_in memory vpn) ≡ true → is_some (accessed_in memory vpn) ≡ true
  resident_accessed memory vpn h = by_page (page_at memory.pages vpn) refl h
    where
      by_page : (o : Option (PageValue S)) → page_at memory.pages vpn ≡ o → is_resident_stage (option_map (λ (page : PageValue S). page_state_of page.place) o) ≡ true → is_some (accessed_in memory vpn) ≡ true
      by_page None at h = cc
      by_page (Some page) at h = ap (λ o. is_some (accessed_at (option_map seen_of o) (entry_in memory vpn))) at ∙ place_accessed page page.place (entry_in memory vpn) refl h
