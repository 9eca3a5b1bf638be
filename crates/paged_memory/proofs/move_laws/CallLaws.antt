-- A page that gives up the frame that it was just brought into has the slot that was called for it.
use Rattle.std.proofs.Common.{◌≡◌, Some, sym, subst}
use Rattle.std.specs.Prelude.{IfSome}
use Rattle.frame_pool.specs.FrameValue.{FrameValue}
use Rattle.page_store.specs.Keeping.{Keeping, NoSlot, Saved, Unbacked, Cleaning, CopyOut, kept}
use Rattle.page_store.specs.Moves.{CalledOnce, IfResident}
use Rattle.page_store.specs.PageValue.{Place, Fresh, Resident, Leaving, Saving, Away, Purged, slot_of}
use Rattle.paged_memory.specs.moves.Filling.{dropped}

module _ {S : Type 0} (called : S → S → Type 0) where
  slot_kept : (old new : Place S) (frame : FrameValue) (slot : Keeping S) → CalledOnce called old (Resident frame slot) → Some new ≡ dropped slot → CalledOnce called old new
  slot_kept old new frame NoSlot once is = λ copy from. let fresh : new ≡ Fresh = cc in subst (λ (p : Place S). IfSome (kept (slot_of p)) (called copy.slot)) (sym fresh) tt
  slot_kept old new frame (Saved saved) once is = λ copy from. let away : new ≡ Away saved = cc in subst (λ (p : Place S). IfSome (kept (slot_of p)) (called copy.slot)) (sym away) (once copy from)
  slot_kept old new frame (Unbacked slot) once is = let none = is in cc
  slot_kept old new frame (Cleaning slot) once is = let none = is in cc
  slot_kept old new frame CopyOut once is = let none = is in cc

  pub then_dropped : (old mid new : Place S) (back : FrameValue) → CalledOnce called old mid → IfResident mid (λ frame slot. (back ≡ frame) × (Some new ≡ dropped slot)) → CalledOnce called old new
  then_dropped old Fresh new back once gone = absurd gone
  then_dropped old (Resident frame slot) new back once gone = slot_kept old new frame slot once gone.1
  then_dropped old (Leaving frame slot mark) new back once gone = absurd gone
  then_dropped old (Saving frame mark) new back once gone = absurd gone
  then_dropped old (Away copy) new back once gone = absurd gone
  then_dropped old Purged new back once gone = absurd gone
