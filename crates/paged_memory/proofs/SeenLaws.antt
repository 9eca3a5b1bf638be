-- What the marks of a page tell of whether it counts as changed.
use Rattle.std.specs.Prelude.{◌≡◌, ℕ, Bool, true, false, ◌||◌, Some, List, refl}
use Rattle.page_store.specs.Keeping.{Keeping, NoSlot, Saved, Unbacked, Cleaning, CopyOut, kept, is_unbacked, is_loose, settled}
use Rattle.page_store.specs.PageValue.{PageValue, Place, Fresh, Resident, Leaving, Saving, Away, Purged, changed, backed}
use Rattle.sv32_table.specs.Entry.{Entry}
use Rattle.paged_memory.specs.Paged.{seen_of, standing_of}
use Rattle.paged_memory.specs.Seen.{takes_stores}

-- what is taken for changed whatever else is so
always : (b : Bool) → (b || true) ≡ true
always true = refl
always false = refl

module _ {S : Type 0} where
  -- a page that begins to leave is backed and reached as it was
  pub unbacked_settled : (slot : Keeping S) → is_unbacked (settled slot) ≡ is_unbacked slot
  unbacked_settled NoSlot = refl
  unbacked_settled (Saved copy) = refl
  unbacked_settled (Unbacked own) = refl
  unbacked_settled (Cleaning own) = refl
  unbacked_settled CopyOut = refl

  pub loose_settled : (slot : Keeping S) → is_loose (settled slot) ≡ is_loose slot
  loose_settled NoSlot = refl
  loose_settled (Saved copy) = refl
  loose_settled (Unbacked own) = refl
  loose_settled (Cleaning own) = refl
  loose_settled CopyOut = refl

  pub backing_settled : (held : S → List ℕ) (origin : List ℕ) (slot : Keeping S) → backed held origin (settled slot) ≡ backed held origin slot
  backing_settled held origin NoSlot = refl
  backing_settled held origin (Saved copy) = refl
  backing_settled held origin (Unbacked own) = refl
  backing_settled held origin (Cleaning own) = refl
  backing_settled held origin CopyOut = refl

  pub kept_settled : (slot : Keeping S) → kept (settled slot) ≡ kept slot
  kept_settled NoSlot = refl
  kept_settled (Saved copy) = refl
  kept_settled (Unbacked own) = refl
  kept_settled (Cleaning own) = refl
  kept_settled CopyOut = refl

  -- nothing backs a page that stores may reach whatever its dirty bit is
  unbacked_loose : (dirty : Bool) (slot : Keeping S) → (dirty || is_loose slot) ≡ true → (dirty || is_unbacked slot) ≡ true
  unbacked_loose dirty NoSlot h = h
  unbacked_loose dirty (Saved copy) h = h
  unbacked_loose dirty (Unbacked own) h = h
  unbacked_loose dirty (Cleaning own) h = h
  unbacked_loose dirty CopyOut h = always dirty

  -- a page that takes stores counts as changed
  pub stores_changed : (page : PageValue S) (e : Entry) → takes_stores (Some (seen_of page)) e ≡ true → changed e.dirty page.place ≡ true
  stores_changed page e takes = by_place page.place takes
    where
      by_place : (place : Place S) → takes_stores (Some (record { rights = page.origin.rights; standing = standing_of place })) e ≡ true → changed e.dirty place ≡ true
      by_place Fresh h = cc
      by_place (Resident frame slot) h = unbacked_loose e.dirty slot h
      by_place (Leaving frame slot mark) h = unbacked_loose mark slot h
      by_place (Saving frame mark) h = refl
      by_place (Away slot) h = cc
      by_place Purged h = cc
