-- What callers see of a page's state.
use Rattle.page_memory.specs.Pages.{Page}
use Rattle.frame_pool.specs.FrameValue.{zero_bytes}
use Rattle.page_store.specs.declared.state.Origin.{Origin}
use Rattle.page_store.specs.declared.state.Origin.TheVariants.{Image, Zeros}
use Rattle.page_store.specs.declared.state.Absent.{Absent}
use Rattle.page_store.specs.declared.state.Absent.TheVariants as absent
use Rattle.page_store.specs.declared.cleaning.Out.{Out}
use Rattle.page_store.specs.declared.cleaning.Out.TheVariants as out
use Rattle.page_store.specs.declared.state.State.{State}
use Rattle.page_store.specs.declared.state.State.TheVariants as state
use Rattle.page_store.specs.declared.state.Keeping.{Keeping as CodeKeeping}
use Rattle.page_store.specs.declared.state.Keeping.TheVariants as code
use Rattle.page_store.specs.Keeping.{Keeping, NoSlot, Saved, Unbacked, Cleaning, CopyOut}
use Rattle.page_store.specs.PageValue.{PageValue, Place, Fresh, Resident, Leaving, Saving, Away, Purged}

abbrev pub origin_of : Origin → Page
origin_of (Image page) = page
origin_of (Zeros rights) = record { rights = rights; bytes = zero_bytes }

-- what a page keeps whose copy, if there is one, is not out
abbrev pub keeping_of : {S : Type 0} → CodeKeeping S → Keeping S
keeping_of code.NoSlot = NoSlot
keeping_of (code.Saved copy) = Saved copy
keeping_of (code.Unbacked slot) = Unbacked slot
keeping_of (code.Cleaning slot) = Cleaning slot

abbrev pub place_in_state : {L : Type 0} {S : Type 0} → State L S → Place S
place_in_state (state.Resident frame slot) = Resident frame (keeping_of slot)
place_in_state (state.Leaving frame slot mark) = Leaving frame (keeping_of slot) mark
place_in_state (state.ResidentOut frame) = Resident frame CopyOut
place_in_state (state.LeavingOut frame mark) = Leaving frame CopyOut mark
place_in_state (state.Saving frame mark) = Saving frame mark
place_in_state state.Fresh = Fresh
place_in_state (state.Away copy) = Away copy
place_in_state state.Purged = Purged

abbrev pub place_absent : {S : Type 0} → Absent S → Place S
place_absent absent.Fresh = Fresh
place_absent (absent.Away copy) = Away copy

abbrev pub place_out : {L : Type 0} {S : Type 0} → Out L → Place S
place_out (out.Resident frame) = Resident frame CopyOut
place_out (out.Leaving frame mark) = Leaving frame CopyOut mark

-- a page that began so, and is there
abbrev pub page_of : {L : Type 0} {S : Type 0} → Origin → State L S → PageValue S
page_of origin state = record { origin = origin_of origin; place = place_in_state state }
