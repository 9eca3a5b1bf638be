-- What the calls on a process's pages answer and change.
use Rattle.std.specs.Prelude.{◌≡◌, ℕ, Bool, List, Option, Some, None, Err}
use Rattle.frame_pool.specs.FrameValue.{FrameValue}
use Rattle.page_memory.specs.Pages.{Page}
use Rattle.page_store.specs.Keeping.{Keeping, settled}
use Rattle.page_store.specs.PageValue.{PageValue}
use Rattle.page_store.specs.PageValue as place
use Rattle.sv32_table.specs.Entry.{Entry}
use Rattle.paged_memory.specs.Seen.{Seen, Standing, Resident, Leaving, Elsewhere}
use Rattle.page_store.specs.declared.refusal.LeaveRefusal.{LeaveRefusal}
use Rattle.page_store.specs.declared.refusal.LeaveRefusal.TheVariants.{NotResident}
use Rattle.page_store.specs.Moves.{IfResident, left}
use Rattle.paged_memory.specs.Paged.{page_at, ChangesPage}

-- whether a page's A is set, if it is resident
abbrev pub accessed_standing : Standing → Entry → Option Bool
accessed_standing (Resident frame loose) e = Some e.accessed
accessed_standing (Leaving frame mark loose) e = None
accessed_standing Elsewhere e = None

abbrev pub accessed_at : Option Seen → Entry → Option Bool
accessed_at (Some seen) e = accessed_standing seen.standing e
accessed_at None e = None

module _ {S : Type 0} where
  -- a resident page, with what it began with, its frame and its slot
  pub record IsResident (pages : List (ℕ × PageValue S)) (number : ℕ) : Type 0 where
    pub origin : Page
    pub frame : FrameValue
    pub slot : Keeping S
    pub found : page_at pages number ≡ Some (record { origin = origin; place = place.Resident frame slot })

  -- one page changes so, and no other
  pub record ChangesBy (by : PageValue S → PageValue S → Type 0) (old new : List (ℕ × PageValue S)) (number : ℕ) : Type 0 where
    pub page : PageValue S
    pub page' : PageValue S
    pub found : page_at old number ≡ Some page
    pub changes : ChangesPage old new number page'
    pub how : by page page'

  -- a resident page begins to leave its frame, with the dirty bit of its entry; a cleaning that has no copy ends
  abbrev pub Leaves : Bool → PageValue S → PageValue S → Type 0
  Leaves mark page page' = IfResident page.place (λ frame slot. page' ≡ record page { place = place.Leaving frame (settled slot) mark })

  -- why a page does not
  abbrev pub RefusesLeave : Option (PageValue S) → LeaveRefusal → Type 0
  RefusesLeave (Some page) refusal = (mark : Bool) → left mark page.place ≡ Err refusal
  RefusesLeave None refusal = refusal ≡ NotResident
