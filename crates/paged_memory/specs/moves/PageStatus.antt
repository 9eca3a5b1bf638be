-- What is shown of a page: where it is, the number of its frame, the A and D bits of its page-table entry, whether it counts as changed, and how
-- far its cleaning is.
use Rattle.std.specs.Prelude.{ℕ, Bool, false, Option, option_map, if◌then◌else◌}
use Rattle.page_store.specs.Cleaning.{is_being_cleaned}
use Rattle.page_store.specs.Keeping.{is_copy_out}
use Rattle.page_store.specs.PageValue.{PageValue, changed, page_state_of, frame_of, slot_of}
use Rattle.sv32_table.specs.Entry.{Entry}
use Rattle.sv32_table.specs.EntryAt.{entry_at, accessed_of, dirty_of}
use Rattle.paged_memory.specs.Paged.{PagedValue, page_at}
use Rattle.paged_memory.specs.declared.status.PageStatus.{PageStatus}

module _ {S : Type 0} where
  -- of a page with this entry, whose process has ended or not: an ending ends a cleaning that has no copy
  abbrev pub status_of : Bool → PageValue S → Entry → PageStatus
  status_of ended page e = record {
    state = page_state_of page.place;
    frame = option_map (λ frame. frame.number) (frame_of page.place);
    accessed = accessed_of e;
    dirty = dirty_of e;
    changed = changed (dirty_of e) page.place;
    cleaning = if ended then false else is_being_cleaned page.place;
    copied = is_copy_out (slot_of page.place);
  }

  -- of the page of a number, if it is mapped
  abbrev pub status_in : Bool → PagedValue S → ℕ → Option PageStatus
  status_in ended memory vpn = option_map (λ page. status_of ended page (entry_at memory.tables vpn)) (page_at memory.pages vpn)
