-- A page of a process is brought into a frame.
use Rattle.std.specs.Prelude.{◌≡◌, ℕ, Bool, false, IfSome, IsFalse, Option, Some, None, List}
use Rattle.frame_pool.specs.FrameValue.{FrameValue}
use Rattle.swap_slots.specs.Slot.{Rose}
use Rattle.page_store.specs.PageValue.{PageValue, Place, Fresh, Away, content, Backed, failures_at, kept_digest, Matches}
use Rattle.page_store.specs.Moves.{CalledOnce, Filled, IfAbsent, IfAway, IfResident}
use Rattle.page_store.specs.Keeping.{is_unbacked, Keeping, NoSlot, Saved, Unbacked, Cleaning, CopyOut}
use Rattle.page_store.specs.declared.refusal.FillFault.{FillFault}
use Rattle.page_store.specs.declared.refusal.FillFault.TheVariants as fill
use Rattle.sv32_table.specs.EntryAt.{has_table}
use Rattle.paged_memory.specs.Paged.{page_at}
use Rattle.paged_memory.specs.Calls.{ChangesBy}
use Rattle.paged_memory.specs.declared.filling.PageInFault.{PageInFault}
use Rattle.paged_memory.specs.declared.filling.PageInFault.TheVariants.{NotAbsent, Device, Damaged, NoMemory}

-- the same reason, of a page among its process's
abbrev pub fault_of : FillFault → PageInFault
fault_of fill.NotAbsent = NotAbsent
fault_of fill.Device = Device
fault_of fill.Damaged = Damaged

module _ {S : Type 0} where
  -- a page is mapped, and has neither a frame nor was given up
  abbrev pub IsAbsent : Option (PageValue S) → Type 0
  IsAbsent (Some page) = IfAbsent page.place (Unit {0}) (λ _. Unit {0})
  IsAbsent None = ⊥

  -- a resident page that has not changed since it was brought in, as its slot shows
  abbrev pub IsUnchanged : PageValue S → Type 0
  IsUnchanged page = IfResident page.place (λ frame slot. IsFalse (is_unbacked slot))

  -- how many failures of its device are reported by the slot that a page has at hand, if the page is mapped
  abbrev pub failures_of : (S → ℕ) → Option (PageValue S) → Option ℕ
  failures_of failures None = None
  failures_of failures (Some page) = failures_at failures page.place

  -- the slot in which a page lay was called once
  abbrev pub PageCalledOnce : (S → S → Type 0) → Option (PageValue S) → Option (PageValue S) → Type 0
  PageCalledOnce called old new = IfSome old (λ page. IfSome new (λ page'. CalledOnce called page.place page'.place))

  -- where a page is that gives up its frame unchanged
  abbrev pub dropped : Keeping S → Option (Place S)
  dropped NoSlot = Some Fresh
  dropped (Saved copy) = Some (Away copy)
  dropped (Unbacked slot) = None
  dropped (Cleaning slot) = None
  dropped CopyOut = None

  module _ (held : S → List ℕ) (honest : Type 0) where
    -- a page in the frame that it was brought into, from its slot with the digest that was kept: where slots are honest it shows what it showed, and what
    -- backs it
    pub record BroughtIn (frame : FrameValue) (old new : PageValue S) : Type 0 where
      pub filled : Filled frame old new
      pub origin : new.origin ≡ old.origin
      pub whole : Matches old.place (content held new)
      pub digest : kept_digest new.place ≡ kept_digest old.place
      pub content : honest → content held new ≡ content held old
      pub backed : honest → Backed held false new

    -- a page that was not brought in: it is as it began, or in its slot, as it was
    pub record StaysAbsent (old new : PageValue S) : Type 0 where
      pub origin : new.origin ≡ old.origin
      pub place : IfAbsent old.place (new.place ≡ Fresh) (λ _. IfAway new.place (λ _. Unit {0}))
      pub content : honest → content held new ≡ content held old
      pub digest : kept_digest new.place ≡ kept_digest old.place

    -- a page that was not loaded from its slot
    pub record FailsToLoad (failures : S → ℕ) (old new : PageValue S) : Type 0 where
      pub stays : StaysAbsent old new
      pub failed : IfAway old.place (λ copy. IfAway new.place (λ after. Rose (failures copy.slot) (failures after.slot)))

    -- a page that was loaded with another digest than the kept one, as only a slot that lies gives it
    pub record ComesDamaged (failures : S → ℕ) (back : FrameValue) (old new : PageValue S) : Type 0 where
      pub stays : StaysAbsent old new
      pub passed : failures_at failures new.place ≡ failures_at failures old.place
      pub differs : ¬ Matches old.place back.bytes
      pub lies : ¬ honest

    -- a page that was not mapped: its frame was taken back, and no failure of its device was counted
    pub record StaysUnmapped (failures : S → ℕ) (back : FrameValue) (old new : PageValue S) : Type 0 where
      pub stays : StaysAbsent old new
      pub passed : failures_at failures new.place ≡ failures_at failures old.place
      pub whole : Matches old.place back.bytes

    -- why an absent page was not brought in, where `tabled` says whether it has a table, with the frame that is handed back
    abbrev pub RefusesAbsent : (S → ℕ) → FrameValue → Bool → PageValue S → PageValue S → FrameValue → PageInFault → Type 0
    RefusesAbsent failures frame tabled old new back NotAbsent = ⊥
    RefusesAbsent failures frame tabled old new back Device = FailsToLoad failures old new × (back.number ≡ frame.number)
    RefusesAbsent failures frame tabled old new back Damaged = ComesDamaged failures back old new × (back.number ≡ frame.number)
    RefusesAbsent failures frame tabled old new back NoMemory = (tabled ≡ false) × (StaysUnmapped failures back old new × (back.number ≡ frame.number))

    -- why a page was not brought in, with the frame that is handed back
    abbrev pub RefusesPageIn : (S → ℕ) → FrameValue → List (ℕ × PageValue S) → List (ℕ × PageValue S) → List (List ℕ) → ℕ → FrameValue → PageInFault → Type 0
    RefusesPageIn failures frame old new tables vpn back NotAbsent = (¬ IsAbsent (page_at old vpn)) × ((new ≡ old) × (back ≡ frame))
    RefusesPageIn failures frame old new tables vpn back Device = ChangesBy (FailsToLoad failures) old new vpn × (back.number ≡ frame.number)
    RefusesPageIn failures frame old new tables vpn back Damaged = ChangesBy (ComesDamaged failures back) old new vpn × (back.number ≡ frame.number)
    RefusesPageIn failures frame old new tables vpn back NoMemory =
        (has_table tables vpn ≡ false) × (ChangesBy (StaysUnmapped failures back) old new vpn × (back.number ≡ frame.number))
